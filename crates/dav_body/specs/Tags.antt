-- A tag within the elements that are open, part by part.
use Rattle.std.specs.Prelude.{ℕ, Bool, not, ◌&&◌, if◌then◌else◌, List, ◌++◌, map, length, nat_le, Option, Some, None, is_none, filter, filter_map}
use Rattle.std.specs.List.{list_any, slice_get}
use Rattle.cal_base.specs.declared.element.Attr.{Attr}
use Rattle.cal_base.specs.Xml.XmlMarkup.{WrittenAttribute, Tag}
use Rattle.cal_base.specs.Xml.XmlScopes.{Scope, declarations, space_of, is_declaration, is_no_declaration, attribute_in, attribute_space, has_repeat, is_same_attribute, has_undeclared_prefix}
use Rattle.cal_base.specs.Xml.XmlFaults.{Why, syntax, prefix, too_deep, greatest_depth}
use Rattle.dav_body.specs.declared.open_elements.OpenElement.{OpenElement}
use Rattle.dav_body.specs.Reading.{scope_of}
use Rattle.dav_body.specs.OpenParts.{open_part}

-- what the element at a depth, counted from the innermost, itself binds a prefix to
abbrev pub declared_at : ℕ → List OpenElement → List ℕ → Option (List ℕ)
declared_at depth around text = elim (slice_get around depth) [ None ↦ None | Some one ↦ space_of (declarations one.tag) text ]

-- what the prefixes stand for at a tag
abbrev pub scope_within : Tag → List OpenElement → Scope
scope_within tag around = declarations tag ++ scope_of (map open_part around)

-- an attribute, no declaration, has an undeclared prefix
abbrev pub is_undeclared : Scope → WrittenAttribute → Bool
is_undeclared scope attribute = not (is_declaration attribute.name) && is_none (attribute_space scope attribute.name)

-- of some written attributes, one has
abbrev pub any_undeclared : Scope → List WrittenAttribute → Bool
any_undeclared scope attributes = list_any (λ (attribute : WrittenAttribute). is_none (attribute_space scope attribute.name)) (filter is_no_declaration attributes)

-- the attributes of some written ones, declarations and those with an undeclared prefix left out
abbrev pub attrs_of : Scope → List WrittenAttribute → List Attr
attrs_of scope attributes = filter_map (attribute_in scope) (filter is_no_declaration attributes)

-- why a tag cannot stand, its declarations and written names being good
abbrev pub scoped_fault : List OpenElement → Tag → List Attr → Option Why
scoped_fault around tag attrs =
    if has_repeat is_same_attribute attrs then Some syntax
    else if has_undeclared_prefix (scope_within tag around) tag then Some prefix
    else if nat_le greatest_depth (length around) then Some too_deep
    else None
