-- Namespaces (Namespaces in XML 1.0, 2 to 6): what the prefixes stand for at a tag, what the tag then names, and the tags that
-- name nothing. Everything is a list of declarations, the nearest first.
use Rattle.std.specs.Prelude.{ℕ, Bool, false, not, ◌&&◌, ◌||◌, ◌==◌, if◌then◌else◌, List, [], ◌∷◌, ◌++◌, length, find, filter, filter_map, flat_map, Option, Some, None, is_none, option_map, unwrap_or, codes}
use Rattle.std.specs.List.{list_any}
use Rattle.std.specs.Str.{bytes_eq}
use Rattle.cal_base.specs.declared.element.Attr.{Attr}
use Rattle.cal_base.specs.Xml.XmlNames.{QName, is_same_name}
use Rattle.cal_base.specs.Xml.XmlMarkup.{WrittenAttribute, Tag, opening, closing, character, section, reference, skipped, markups, markup_of, referenced}

-- Values

-- what a piece of a value stands for: a reference for its octets, and anything else, a reference at fault too, for itself
abbrev pub piece_octets : List ℕ → List ℕ
piece_octets piece = elim (markup_of piece) [
  | None ↦ piece
  | Some (opening tag) ↦ piece
  | Some (closing name) ↦ piece
  | Some (character text) ↦ piece
  | Some (section text) ↦ piece
  | Some (reference name) ↦ unwrap_or (referenced name) piece
  | Some skipped ↦ piece
]

-- an attribute's value (XML 1.0, 3.3.3): its references are replaced, and its white space stays as it is
abbrev pub value_octets : List ℕ → List ℕ
value_octets value = flat_map piece_octets (markups value)

-- Declarations

-- a prefix, empty for the default, and what it stands for, empty for no namespace
abbrev pub Scope : Type 0
Scope = List (List ℕ × List ℕ)

abbrev pub xml_space : List ℕ
xml_space = codes "http://www.w3.org/XML/1998/namespace"

abbrev pub xmlns_space : List ℕ
xmlns_space = codes "http://www.w3.org/2000/xmlns/"

-- what holds around the root: no default, and the prefix `xml`
abbrev pub outer_scope : Scope
outer_scope = ([], []) ∷ (codes "xml", xml_space) ∷ []

-- `xmlns`, and `xmlns:` with a prefix
abbrev pub is_default : QName → Bool
is_default name = (length name.prefix == 0) && bytes_eq name.local (codes "xmlns")

abbrev pub is_declaration : QName → Bool
is_declaration name = is_default name || bytes_eq name.prefix (codes "xmlns")

abbrev pub declared_prefix : QName → List ℕ
declared_prefix name = if is_default name then [] else name.local

abbrev pub declared_by : WrittenAttribute → Option (List ℕ × List ℕ)
declared_by attribute = if is_declaration attribute.name then Some (declared_prefix attribute.name, value_octets attribute.value) else None

abbrev pub declarations : Tag → Scope
declarations tag = filter_map declared_by tag.attributes

-- what holds at a tag, given the tags that it stands in, the innermost first
abbrev pub scope_at : Tag → List Tag → Scope
scope_at tag around = declarations tag ++ flat_map declarations around ++ outer_scope

-- the namespace that a prefix stands for
abbrev pub space_of : Scope → List ℕ → Option (List ℕ)
space_of scope prefix = option_map (λ (entry : List ℕ × List ℕ). entry.1) (find (λ (entry : List ℕ × List ℕ). bytes_eq entry.0 prefix) scope)

-- What a tag names

abbrev pub is_no_declaration : WrittenAttribute → Bool
is_no_declaration attribute = not (is_declaration attribute.name)

-- an attribute without a prefix is in no namespace; the default does not speak of it
abbrev pub attribute_space : Scope → QName → Option (List ℕ)
attribute_space scope name = if length name.prefix == 0 then Some [] else space_of scope name.prefix

abbrev pub attribute_in : Scope → WrittenAttribute → Option Attr
attribute_in scope attribute =
    option_map (λ space. record { space = space; name = attribute.name.local; value = value_octets attribute.value })
    (attribute_space scope attribute.name)

-- the attributes of a tag but its declarations, those with an undeclared prefix left out
abbrev pub attributes_in : Scope → Tag → List Attr
attributes_in scope tag = filter_map (attribute_in scope) (filter is_no_declaration tag.attributes)

-- Tags that cannot stand

-- `xml` is bound to its namespace and nothing else is, `xmlns` and its namespace to nothing, and no prefix to no namespace (3)
abbrev pub is_bad_binding : List ℕ × List ℕ → Bool
is_bad_binding binding =
    bytes_eq binding.1 xmlns_space
    || bytes_eq binding.0 (codes "xmlns")
    || not (bytes_eq binding.0 (codes "xml")) && bytes_eq binding.1 xml_space
    || bytes_eq binding.0 (codes "xml") && not (bytes_eq binding.1 xml_space)
    || not (length binding.0 == 0) && (length binding.1 == 0)

-- whether two of a list are alike
abbrev pub has_repeat : {X : Type 0} → (X → X → Bool) → List X → Bool
has_repeat alike [] = false
has_repeat alike (first ∷ more) = list_any (alike first) more || has_repeat alike more

abbrev pub is_same_written : WrittenAttribute → WrittenAttribute → Bool
is_same_written one other = is_same_name one.name other.name

abbrev pub is_same_attribute : Attr → Attr → Bool
is_same_attribute one other = bytes_eq one.space other.space && bytes_eq one.name other.name

-- an attribute that stands twice, as it is written (XML 1.0, 3.1) or by what it names (6.3), or a declaration that cannot be made
abbrev pub has_bad_attribute : Scope → Tag → Bool
has_bad_attribute scope tag =
    has_repeat is_same_written tag.attributes
    || has_repeat is_same_attribute (attributes_in scope tag)
    || list_any is_bad_binding (declarations tag)

-- a name whose prefix is not declared (5)
abbrev pub has_undeclared_prefix : Scope → Tag → Bool
has_undeclared_prefix scope tag =
    is_none (space_of scope tag.name.prefix)
    || list_any (λ (attribute : WrittenAttribute). is_none (attribute_space scope attribute.name)) (filter is_no_declaration tag.attributes)
