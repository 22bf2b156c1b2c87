-- What is kept between two markups, and one markup more.
use Rattle.std.specs.Prelude.{◌≡◌, ℕ, ◌+◌, Bool, true, false, List, [], ◌∷◌, map, filter_map, length, Option, Some, None}
use Rattle.cal_base.specs.declared.element.Element.{Element}
use Rattle.cal_base.specs.Xml.XmlMarkup.{Tag, Markup, markup_of}
use Rattle.cal_base.specs.Xml.XmlFaults.{Fault, first_fault, markup_fault, tags_behind, rooted_behind}
use Rattle.cal_base.specs.Xml.XmlBodies.{levels_before, outermost}
use Rattle.dav_body.specs.Reading.{OpenPart, with_child, finished, finished_behind}

-- before the root, within it, or behind it
pub data Kept : Type 0 where
  nothing : Kept
  inside : OpenPart → List OpenPart → Kept
  behind : Element → Kept

abbrev pub part_tags : List OpenPart → List Tag
part_tags = map (λ (one : OpenPart). one.tag)

abbrev pub kept_tags : Kept → List Tag
kept_tags nothing = []
kept_tags (inside inner around) = inner.tag ∷ part_tags around
kept_tags (behind element) = []

abbrev pub is_rooted : Kept → Bool
is_rooted nothing = false
is_rooted (inside inner around) = true
is_rooted (behind element) = true

-- the first fault and the element, with what is to come
abbrev pub fault_with : ℕ → Kept → ℕ → List (List ℕ) → Option Fault
fault_with end kept place texts = first_fault end (kept_tags kept) (is_rooted kept) place texts

abbrev pub element_with : Kept → List Markup → Option Element
element_with nothing markups = outermost (levels_before markups)
element_with (inside inner around) markups = finished (inner ∷ around) (levels_before markups)
element_with (behind element) markups = finished_behind element [] (levels_before markups)

-- one markup more that has no fault
pub record IsMarkupStep (before : Kept) (markup : Markup) (after : Kept) : Type 0 where
  pub stands : markup_fault (kept_tags before) (is_rooted before) markup ≡ None
  pub tags : kept_tags after ≡ tags_behind (kept_tags before) markup
  pub rooted : is_rooted after ≡ rooted_behind (is_rooted before) markup
  pub elements : (more : List Markup) → element_with before (markup ∷ more) ≡ element_with after more

-- a text more that has no fault: what stays to be shown of the texts to come is the same
pub record IsStep (end place : ℕ) (before : Kept) (text : List ℕ) (after : Kept) : Type 0 where
  pub faults : (texts : List (List ℕ)) → fault_with end before place (text ∷ texts) ≡ fault_with end after (place + length text) texts
  pub elements : (texts : List (List ℕ)) → element_with before (filter_map markup_of (text ∷ texts)) ≡ element_with after (filter_map markup_of texts)

-- a text more at which that fault stands
abbrev pub IsStop : ℕ → ℕ → Kept → List ℕ → Fault → Type 0
IsStop end place before text fault = (texts : List (List ℕ)) → fault_with end before place (text ∷ texts) ≡ Some fault

-- an element that has just ended, within others
abbrev pub ended : Element → List OpenPart → Kept
ended element [] = behind element
ended element (outer ∷ around) = inside (with_child outer element) around

-- the elements that are open, where there are some
abbrev pub kept_around : List OpenPart → Kept
kept_around [] = nothing
kept_around (inner ∷ around) = inside inner around
