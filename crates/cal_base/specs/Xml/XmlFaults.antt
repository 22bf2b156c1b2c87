-- The first fault of a body (XML 1.0; Namespaces in XML 1.0; RFC 4918, 8.2): its place, and why it is one. A table says what can stand
-- at a place, given the tags that are open there and whether the root has begun; the first markup that cannot stand decides, and
-- the end comes last.
use Rattle.std.specs.Prelude.{ℕ, suc, ◌+◌, Bool, true, false, not, ◌&&◌, ◌||◌, ◌==◌, nat_lt, nat_le, if◌then◌else◌, List, [], ◌∷◌, length, take, drop, Option, Some, None, is_some, option_map, codes}
use Rattle.std.specs.List.{take_while}
use Rattle.std.specs.Str.{bytes_eq}
use Rattle.cal_base.specs.Texts.Text.{raised_all}
use Rattle.cal_base.specs.Lines.ComponentTrees.{or_else}
use Rattle.cal_base.specs.Xml.XmlNames.{QName, is_same_name, is_blank, are_blanks, begins_with_blank, is_xml_text}
use Rattle.cal_base.specs.Xml.XmlMarkup.{Tag, Markup, opening, closing, character, section, reference, skipped, begins, ends, is_quote, without_first_blanks, markup_size, markups, markup_of, referenced, can_go_on}
use Rattle.cal_base.specs.Xml.XmlScopes.{scope_at, has_bad_attribute, has_undeclared_prefix}

-- why something cannot stand, in the order in which they are weighed at one place
pub data Why : Type 0 where
  encoding : Why
  syntax : Why
  dtd : Why
  entity : Why
  prefix : Why
  too_deep : Why
  cut_short : Why

pub record Fault : Type 0 where
  pub place : ℕ
  pub why : Why

abbrev pub fault_at : ℕ → Why → Fault
fault_at place why = record { place = place; why = why }

-- What is open at a place: the tags of the elements that have not ended, the innermost first, and whether the root has begun

abbrev pub tags_behind : List Tag → Markup → List Tag
tags_behind around (opening tag) = if tag.is_empty then around else tag ∷ around
tags_behind around (closing name) = drop 1 around
tags_behind around (character text) = around
tags_behind around (section text) = around
tags_behind around (reference name) = around
tags_behind around skipped = around

abbrev pub is_opening : Markup → Bool
is_opening (opening tag) = true
is_opening (closing name) = false
is_opening (character text) = false
is_opening (section text) = false
is_opening (reference name) = false
is_opening skipped = false

abbrev pub rooted_behind : Bool → Markup → Bool
rooted_behind rooted markup = is_opening markup || rooted

abbrev pub is_within : List Tag → Bool
is_within [] = false
is_within (tag ∷ around) = true

-- Where a markup can stand

abbrev pub closes_innermost : QName → List Tag → Bool
closes_innermost name [] = false
closes_innermost name (tag ∷ around) = is_same_name tag.name name

-- outside the root there are blanks, comments and processing instructions alone, and one root (XML 1.0, 2.1 and 2.8); an end tag
-- has the name of the innermost open tag (3, Element Type Match)
abbrev pub can_stand : List Tag → Bool → Markup → Bool
can_stand around rooted (opening tag) = is_within around || not rooted
can_stand around rooted (closing name) = closes_innermost name around
can_stand around rooted (character text) = is_within around || are_blanks text
can_stand around rooted (section text) = is_within around
can_stand around rooted (reference name) = is_within around
can_stand around rooted skipped = true

-- Faults of a markup

-- the greatest depth of an element, the root being at 1
abbrev pub greatest_depth : ℕ
greatest_depth = 32

-- why a tag cannot stand within these
abbrev pub tag_fault : List Tag → Tag → Option Why
tag_fault around tag =
    let scope = scope_at tag around in
    if has_bad_attribute scope tag then Some syntax
    else if has_undeclared_prefix scope tag then Some prefix
    else if nat_le greatest_depth (length around) then Some too_deep
    else None

abbrev pub reference_fault : List ℕ → Option Why
reference_fault name = if is_some (referenced name) then None else Some entity

abbrev pub own_fault : List Tag → Markup → Option Why
own_fault around (opening tag) = tag_fault around tag
own_fault around (closing name) = None
own_fault around (character text) = None
own_fault around (section text) = None
own_fault around (reference name) = reference_fault name
own_fault around skipped = None

-- why a markup, itself well formed, cannot stand at a place
abbrev pub markup_fault : List Tag → Bool → Markup → Option Why
markup_fault around rooted markup = if can_stand around rooted markup then own_fault around markup else Some syntax

-- References within a tag: each is a markup of its own, with its own place

-- of a text that begins with `&`
abbrev pub inner_fault : List ℕ → Option Why
inner_fault text =
    let first = take (markup_size text) text in
    elim (markup_of first) [
      | None ↦ if can_go_on first then None else Some syntax
      | Some (opening tag) ↦ None
      | Some (closing name) ↦ None
      | Some (character text) ↦ None
      | Some (section text) ↦ None
      | Some (reference name) ↦ reference_fault name
      | Some skipped ↦ None
    ]

-- the first fault of the references in a text at a place
abbrev pub first_inner : ℕ → List ℕ → Option Fault
first_inner place [] = None
first_inner place (octet ∷ text) =
    or_else (if octet == 38 then option_map (fault_at place) (inner_fault (octet ∷ text)) else None) (first_inner (suc place) text)

-- in a tag alone; in a comment, a section and an instruction `&` is no markup
abbrev pub references_fault : ℕ → List ℕ → Option Fault
references_fault place text =
    if begins text (codes "<") && not (begins text (codes "<!")) && not (begins text (codes "<?"))
    then first_inner place text else None

-- The first fault of a list of markup

-- what is no markup by itself: it is cut by the end, or it cannot stand
abbrev pub no_markup_fault : ℕ → ℕ → List ℕ → Fault
no_markup_fault end place text = if begins text (codes "<!DOCTYPE") then fault_at place dtd
    else if can_go_on text then elim (references_fault place text) [ None ↦ fault_at end cut_short | Some fault ↦ fault ]
    else fault_at place syntax

-- the body is whole where its root is closed
abbrev pub end_fault : ℕ → List Tag → Bool → Option Fault
end_fault end around rooted = if rooted && not (is_within around) then None else Some (fault_at end cut_short)

-- the first fault of some markup, given the end of the body, what is open at their place, and the place
abbrev pub first_fault : ℕ → List Tag → Bool → ℕ → List (List ℕ) → Option Fault
first_fault end around rooted place [] = end_fault end around rooted
first_fault end around rooted place (text ∷ texts) = elim (markup_of text) [
  | None ↦ Some (no_markup_fault end place text)
  | Some markup ↦ elim (markup_fault around rooted markup) [
    | Some why ↦ Some (fault_at place why)
    | None ↦ or_else (references_fault place text) (first_fault end (tags_behind around markup) (rooted_behind rooted markup) (place + length text) texts)
  ]
]

-- The front of a body (2.8; appendix F.1): perhaps a byte order mark, and then perhaps a declaration

abbrev pub byte_order_mark : List ℕ
byte_order_mark = 0xEF ∷ 0xBB ∷ 0xBF ∷ []

abbrev pub mark_size : List ℕ → ℕ
mark_size octets = if begins octets byte_order_mark then 3 else 0

-- `<?xml`, a blank, anything, `?>`
abbrev pub is_declaration : List ℕ → Bool
is_declaration text = begins text (codes "<?xml") && begins_with_blank (drop 5 text)

-- the text between two quotes that a text begins with
abbrev pub quoted_text : List ℕ → Option (List ℕ)
quoted_text [] = None
quoted_text (quote ∷ text) =
    let value = take_while (λ octet. not (octet == quote)) text in
    if is_quote quote && nat_lt (length value) (length text) then Some value else None

-- what is assigned in a text that begins with `=`, with or without blanks around it
abbrev pub assigned_text : List ℕ → Option (List ℕ)
assigned_text [] = None
assigned_text (octet ∷ text) = if octet == 61 then quoted_text (without_first_blanks text) else None

-- the encoding that a declaration names: what is assigned to the first `encoding` behind a blank to which a quoted text is assigned
abbrev pub encoding_name : List ℕ → Option (List ℕ)
encoding_name [] = None
encoding_name (octet ∷ text) =
    or_else (if is_blank octet && begins text (codes "encoding") then assigned_text (without_first_blanks (drop 8 text)) else None)
    (encoding_name text)

-- no encoding, or UTF-8 in any case
abbrev pub is_known_encoding : Option (List ℕ) → Bool
is_known_encoding None = true
is_known_encoding (Some name) = bytes_eq (raised_all name) (codes "UTF-8")

abbrev pub declaration_fault : ℕ → ℕ → List ℕ → Option Fault
declaration_fault end place text =
    if ends text (codes "?>") && not (is_known_encoding (encoding_name text)) then Some (fault_at place encoding)
    else if not (is_xml_text text) then Some (fault_at place syntax)
    else if not (ends text (codes "?>")) then Some (fault_at end cut_short)
    else None

-- the first fault of the markup behind the mark
abbrev pub fault_behind : ℕ → ℕ → List (List ℕ) → Option Fault
fault_behind end place [] = first_fault end [] false place []
fault_behind end place (text ∷ texts) =
    if is_declaration text then or_else (declaration_fault end place text) (first_fault end [] false (place + length text) texts)
    else first_fault end [] false place (text ∷ texts)

-- the first fault of a body, of all its octets
abbrev pub body_fault : List ℕ → Option Fault
body_fault octets = fault_behind (length octets) (mark_size octets) (markups (drop (mark_size octets) octets))
