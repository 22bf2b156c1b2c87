-- One markup more: the faults and the element of what is to come.
use Rattle.std.proofs.Common.{◌≡◌, ℕ, ◌+◌, Bool, true, false, List, [], ◌∷◌, ◌++◌, length, Option, Some, None, refl, sym, ap, ap₂, ◌∙◌}
use Rattle.std.specs.Prelude.{is_some, filter_map, if◌then◌else◌, unwrap_or}
use Rattle.std.specs.List.{cons_option}
use Rattle.cal_base.specs.declared.element.Element.{Element}
use Rattle.cal_base.specs.Lines.ComponentTrees.{or_else}
use Rattle.cal_base.specs.Xml.XmlNames.{QName, are_blanks, is_same_name}
use Rattle.cal_base.specs.Xml.XmlMarkup.{Tag, Markup, opening, closing, character, section, reference, skipped, markup_of, referenced}
use Rattle.cal_base.specs.Xml.XmlFaults.{Why, entity, cut_short, Fault, fault_at, tag_fault, references_fault, no_markup_fault, first_fault, markup_fault, tags_behind, rooted_behind}
use Rattle.cal_base.specs.Xml.XmlBodies.{said, with_part, levels_before, with_line_feeds}
use Rattle.dav_body.specs.Reading.{OpenPart, whole, opened, finished, finished_behind}
use Rattle.dav_body.specs.Keeping.{Kept, nothing, inside, behind, ended, kept_around, part_tags, kept_tags, is_rooted, fault_with, element_with, IsMarkupStep, IsStep, IsStop}
use Rattle.dav_body.proofs.OpenParts.{finished-said, outermost-said, behind-said, finished-tag, finished-empty_tag, finished-closing}

-- By its text

-- what a fault of a markup leaves of the faults behind
abbrev told : ℕ → List ℕ → Option Fault → Option Why → Option Fault
told place text rest fault = elim fault [
  | Some why ↦ Some (fault_at place why)
  | None ↦ or_else (references_fault place text) rest
]

-- the faults, by what the first text is
abbrev found_fault : ℕ → List Tag → Bool → ℕ → List ℕ → List (List ℕ) → Option Markup → Option Fault
found_fault end around rooted place text texts found = elim found [
  | None ↦ Some (no_markup_fault end place text)
  | Some markup ↦ told place text (first_fault end (tags_behind around markup) (rooted_behind rooted markup) (place + length text) texts) (markup_fault around rooted markup)
]

fault_of_text : (end place : ℕ) (before : Kept) (text : List ℕ) (texts : List (List ℕ)) (markup : Markup) (fault : Option Why) → markup_of text ≡ Some markup → markup_fault (kept_tags before) (is_rooted before) markup ≡ fault
    → fault_with end before place (text ∷ texts) ≡ told place text (first_fault end (tags_behind (kept_tags before) markup) (rooted_behind (is_rooted before) markup) (place + length text) texts) fault
fault_of_text end place before text texts markup fault is stands =
    ap (found_fault end (kept_tags before) (is_rooted before) place text texts) is
    ∙ ap (told place text (first_fault end (tags_behind (kept_tags before) markup) (rooted_behind (is_rooted before) markup) (place + length text) texts)) stands

first_of_text : (text : List ℕ) (texts : List (List ℕ)) (markup : Markup) → markup_of text ≡ Some markup → filter_map markup_of (text ∷ texts) ≡ markup ∷ filter_map markup_of texts
first_of_text text texts markup is = ap (λ found. cons_option found (filter_map markup_of texts)) is

pub step_of_markup : (end place : ℕ) (before after : Kept) (text : List ℕ) (markup : Markup) → markup_of text ≡ Some markup → references_fault place text ≡ None → IsMarkupStep before markup after → IsStep end place before text after
step_of_markup end place before after text markup is none step = record {
  faults = λ texts. fault_of_text end place before text texts markup None is step.stands ∙ ap (λ found. or_else found (first_fault end (tags_behind (kept_tags before) markup) (rooted_behind (is_rooted before) markup) (place + length text) texts)) none ∙ ap₂ (λ tags rooted. first_fault end tags rooted (place + length text) texts) (sym step.tags) (sym step.rooted);
  elements = λ texts. ap (element_with before) (first_of_text text texts markup is) ∙ step.elements (filter_map markup_of texts);
}

pub stop_of_markup : (end place : ℕ) (before : Kept) (text : List ℕ) (markup : Markup) (why : Why) → markup_of text ≡ Some markup → markup_fault (kept_tags before) (is_rooted before) markup ≡ Some why → IsStop end place before text (fault_at place why)
stop_of_markup end place before text markup why is stands = λ texts. fault_of_text end place before text texts markup (Some why) is stands

pub stop_of_reference : (end place : ℕ) (before after : Kept) (text : List ℕ) (markup : Markup) (fault : Fault) → markup_of text ≡ Some markup → references_fault place text ≡ Some fault → IsMarkupStep before markup after → IsStop end place before text fault
stop_of_reference end place before after text markup fault is found step = λ texts. fault_of_text end place before text texts markup None is step.stands ∙ ap (λ found. or_else found (first_fault end (tags_behind (kept_tags before) markup) (rooted_behind (is_rooted before) markup) (place + length text) texts)) found

pub stop_of_no_markup : (end place : ℕ) (before : Kept) (text : List ℕ) → markup_of text ≡ None → IsStop end place before text (no_markup_fault end place text)
stop_of_no_markup end place before text none = λ texts. ap (found_fault end (kept_tags before) (is_rooted before) place text texts) none

-- Markups that only add text, or nothing

pub step_character : (inner : OpenPart) (around : List OpenPart) (text : List ℕ) → IsMarkupStep (inside inner around) (character text) (inside (record inner { text = inner.text ++ with_line_feeds text }) around)
step_character inner around text = record {
  stands = refl;
  tags = refl;
  rooted = refl;
  elements = λ more. finished-said inner around (with_line_feeds text) (levels_before more);
}

pub step_section : (inner : OpenPart) (around : List OpenPart) (text : List ℕ) → IsMarkupStep (inside inner around) (section text) (inside (record inner { text = inner.text ++ with_line_feeds text }) around)
step_section inner around text = record {
  stands = refl;
  tags = refl;
  rooted = refl;
  elements = λ more. finished-said inner around (with_line_feeds text) (levels_before more);
}

pub step_reference : (inner : OpenPart) (around : List OpenPart) (name octets : List ℕ) → referenced name ≡ Some octets → IsMarkupStep (inside inner around) (reference name) (inside (record inner { text = inner.text ++ octets }) around)
step_reference inner around name octets is = record {
  stands = ap (λ found. if is_some found then None else Some entity) is;
  tags = refl;
  rooted = refl;
  elements = λ more. ap (λ found. finished (inner ∷ around) (with_part (λ scope. said (unwrap_or found [])) (levels_before more))) is ∙ finished-said inner around octets (levels_before more);
}

pub step_skipped : (before : Kept) → IsMarkupStep before skipped before
step_skipped nothing = record { stands = refl; tags = refl; rooted = refl; elements = λ more. refl }
step_skipped (inside inner around) = record { stands = refl; tags = refl; rooted = refl; elements = λ more. refl }
step_skipped (behind element) = record { stands = refl; tags = refl; rooted = refl; elements = λ more. refl }

pub step_blank_before : (text : List ℕ) → are_blanks text ≡ true → IsMarkupStep nothing (character text) nothing
step_blank_before text blank = record {
  stands = rw blank refl;
  tags = refl;
  rooted = refl;
  elements = λ more. outermost-said (with_line_feeds text) (levels_before more);
}

pub step_blank_behind : (element : Element) (text : List ℕ) → are_blanks text ≡ true → IsMarkupStep (behind element) (character text) (behind element)
step_blank_behind element text blank = record {
  stands = rw blank refl;
  tags = refl;
  rooted = refl;
  elements = λ more. behind-said element (with_line_feeds text) (levels_before more);
}

-- An element that has just ended, within others

ended_with : (element : Element) (around : List OpenPart) (more : List Markup) → finished_behind element around (levels_before more) ≡ element_with (ended element around) more
ended_with element [] more = refl
ended_with element (outer ∷ around) more = refl

ended_tags : (element : Element) (around : List OpenPart) → kept_tags (ended element around) ≡ part_tags around
ended_tags element [] = refl
ended_tags element (outer ∷ around) = refl

ended_rooted : (element : Element) (around : List OpenPart) → is_rooted (ended element around) ≡ true
ended_rooted element [] = refl
ended_rooted element (outer ∷ around) = refl

pub step_closing : (inner : OpenPart) (around : List OpenPart) (name : QName) → is_same_name inner.tag.name name ≡ true → IsMarkupStep (inside inner around) (closing name) (ended (whole inner []) around)
step_closing inner around name same = record {
  stands = rw same refl;
  tags = ended_tags (whole inner []) around;
  rooted = ended_rooted (whole inner []) around;
  elements = λ more. finished-closing inner around (levels_before more) ∙ ended_with (whole inner []) around more;
}

-- A tag, within these

around_with : (around : List OpenPart) (more : List Markup) → element_with (kept_around around) more ≡ finished around (levels_before more)
around_with [] more = refl
around_with (inner ∷ around) more = refl

around_tags : (around : List OpenPart) → kept_tags (kept_around around) ≡ part_tags around
around_tags [] = refl
around_tags (inner ∷ around) = refl

around_stands : (around : List OpenPart) (tag : Tag) → markup_fault (kept_tags (kept_around around)) (is_rooted (kept_around around)) (opening tag) ≡ tag_fault (part_tags around) tag
around_stands [] tag = refl
around_stands (inner ∷ around) tag = refl

pub step_opening : (around : List OpenPart) (tag : Tag) → tag.is_empty ≡ false → tag_fault (part_tags around) tag ≡ None → IsMarkupStep (kept_around around) (opening tag) (inside (opened tag around) around)
step_opening around tag open_one none = record {
  stands = around_stands around tag ∙ none;
  tags = sym (ap (λ b. if b then kept_tags (kept_around around) else tag ∷ kept_tags (kept_around around)) open_one ∙ ap (λ tags. tag ∷ tags) (around_tags around));
  rooted = refl;
  elements = λ more. around_with around (opening tag ∷ more) ∙ finished-tag tag around (levels_before more) open_one;
}

pub step_empty : (around : List OpenPart) (tag : Tag) → tag.is_empty ≡ true → tag_fault (part_tags around) tag ≡ None → IsMarkupStep (kept_around around) (opening tag) (ended (whole (opened tag around) []) around)
step_empty around tag empty none = record {
  stands = around_stands around tag ∙ none;
  tags = ended_tags (whole (opened tag around) []) around ∙ sym (ap (λ b. if b then kept_tags (kept_around around) else tag ∷ kept_tags (kept_around around)) empty ∙ around_tags around);
  rooted = ended_rooted (whole (opened tag around) []) around;
  elements = λ more. around_with around (opening tag ∷ more) ∙ finished-empty_tag tag around (levels_before more) empty ∙ ended_with (whole (opened tag around) []) around more;
}

pub stop_opening : (around : List OpenPart) (tag : Tag) (why : Why) → tag_fault (part_tags around) tag ≡ Some why → markup_fault (kept_tags (kept_around around)) (is_rooted (kept_around around)) (opening tag) ≡ Some why
stop_opening around tag why is = around_stands around tag ∙ is

-- The end

pub end_inside : (end place : ℕ) (inner : OpenPart) (around : List OpenPart) → fault_with end (inside inner around) place [] ≡ Some (fault_at end cut_short)
end_inside end place inner around = refl
