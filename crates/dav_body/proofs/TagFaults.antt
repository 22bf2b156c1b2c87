-- Why a tag cannot stand, by what is found of it in turn.
use Rattle.std.proofs.Common.{◌≡◌, ℕ, Bool, true, false, List, map, length, Option, Some, None, refl, sym, ap, ap₂, ◌∙◌}
use Rattle.std.specs.Prelude.{if◌then◌else◌, ◌||◌, nat_le}
use Rattle.std.specs.List.{list_any}
use Rattle.std.proofs.lemmas.List.{length-map}
use Rattle.cal_base.specs.declared.element.Attr.{Attr}
use Rattle.cal_base.specs.Xml.XmlMarkup.{Tag}
use Rattle.cal_base.specs.Xml.XmlScopes.{Scope, declarations, attributes_in, has_repeat, is_same_written, is_same_attribute, is_bad_binding, has_bad_attribute, has_undeclared_prefix}
use Rattle.cal_base.specs.Xml.XmlFaults.{Why, syntax, prefix, too_deep, greatest_depth, tag_fault}
use Rattle.dav_body.specs.declared.fault.Why.{Why as ReadWhy}
use Rattle.dav_body.specs.declared.fault.Why.TheVariants.{Syntax}
use Rattle.dav_body.specs.declared.open_elements.OpenElement.{OpenElement}
use Rattle.dav_body.specs.declared.resolve.Resolved.TheVariants.{Fault, Open}
use Rattle.dav_body.specs.Reading.{OpenPart, opened}
use Rattle.dav_body.specs.OpenParts.{open_part}
use Rattle.dav_body.specs.Keeping.{part_tags}
use Rattle.dav_body.specs.Kept.{IsResolved}
use Rattle.dav_body.specs.Tags.{scope_within, scoped_fault}
use Rattle.dav_body.specs.Faults.{why_told}
use Rattle.dav_body.proofs.OpenParts.{scope_at-open}

-- why a tag cannot stand under a scope, within so many
abbrev fault_under : Tag → ℕ → Scope → Option Why
fault_under tag depth scope =
    if has_bad_attribute scope tag then Some syntax
    else if has_undeclared_prefix scope tag then Some prefix
    else if nat_le greatest_depth depth then Some too_deep
    else None

under : (tag : Tag) (around : List OpenElement) → tag_fault (part_tags (map open_part around)) tag ≡ fault_under tag (length around) (scope_within tag around)
under tag around =
    ap₂ (fault_under tag) (length-map (map open_part around) (λ (one : OpenPart). one.tag) ∙ length-map around open_part) (scope_at-open tag (map open_part around))

bad_attribute : (tag : Tag) (around : List OpenElement) → has_bad_attribute (scope_within tag around) tag ≡ true → tag_fault (part_tags (map open_part around)) tag ≡ Some syntax
bad_attribute tag around is =
    under tag around
    ∙ ap (λ b. if b then Some syntax else if has_undeclared_prefix (scope_within tag around) tag then Some prefix else if nat_le greatest_depth (length around) then Some too_deep else None) is

or_true : (a : Bool) → (a || true) ≡ true
or_true true = refl
or_true false = refl

or_false : (a : Bool) → (a || false) ≡ a
or_false true = refl
or_false false = refl

pub bad_names : (tag : Tag) (around : List OpenElement) → has_repeat is_same_written tag.attributes ≡ true → IsResolved around tag (Fault Syntax)
bad_names tag around is =
    bad_attribute tag around (ap (λ b. (b || has_repeat is_same_attribute (attributes_in (scope_within tag around) tag)) || list_any is_bad_binding (declarations tag)) is)

pub bad_bindings : (tag : Tag) (around : List OpenElement) → list_any is_bad_binding (declarations tag) ≡ true → IsResolved around tag (Fault Syntax)
bad_bindings tag around is =
    let those = has_repeat is_same_written tag.attributes || has_repeat is_same_attribute (attributes_in (scope_within tag around) tag) in
    bad_attribute tag around (ap (λ b. those || b) is ∙ or_true those)

-- A tag whose declarations and written names are good

pub told_scoped : (tag : Tag) (around : List OpenElement) (attrs : List Attr) → has_repeat is_same_written tag.attributes ≡ false → list_any is_bad_binding (declarations tag) ≡ false → attrs ≡ attributes_in (scope_within tag around) tag
    → tag_fault (part_tags (map open_part around)) tag ≡ scoped_fault around tag attrs
told_scoped tag around attrs names bindings is =
    let named = has_repeat is_same_attribute (attributes_in (scope_within tag around) tag) in
    under tag around
    ∙ ap (λ b. if b then Some syntax else if has_undeclared_prefix (scope_within tag around) tag then Some prefix else if nat_le greatest_depth (length around) then Some too_deep else None)
    (ap₂ (λ a b. (a || named) || b) names bindings ∙ or_false named ∙ ap (has_repeat is_same_attribute) (sym is))

pub resolved_fault : (tag : Tag) (around : List OpenElement) (attrs : List Attr) (why : ReadWhy) → has_repeat is_same_written tag.attributes ≡ false → list_any is_bad_binding (declarations tag) ≡ false → attrs ≡ attributes_in (scope_within tag around) tag
    → Some (why_told why) ≡ scoped_fault around tag attrs → IsResolved around tag (Fault why)
resolved_fault tag around attrs why names bindings is told = told_scoped tag around attrs names bindings is ∙ sym told

pub resolved_open : (tag : Tag) (around : List OpenElement) (attrs : List Attr) (one : OpenElement) → has_repeat is_same_written tag.attributes ≡ false → list_any is_bad_binding (declarations tag) ≡ false → attrs ≡ attributes_in (scope_within tag around) tag
    → None ≡ scoped_fault around tag attrs → open_part one ≡ opened tag (map open_part around) → IsResolved around tag (Open one)
resolved_open tag around attrs one names bindings is told opens = (told_scoped tag around attrs names bindings is ∙ sym told, opens)
