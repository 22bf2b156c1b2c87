-- An element that was read can stand in a body, given what each markup brings.
use Rattle.std.proofs.Common.{◌≡◌, ℕ, suc, ◌+◌, ◌-◌, ◌<◌, ◌^◌, Bool, true, false, List, [], ◌∷◌, length, drop, Option, Some, None, inl, inr, arith, refl, sym, ap, subst, ◌∙◌, length-append}
use Rattle.std.specs.Prelude.{⊤, filter_map, if◌then◌else◌, unwrap_or, nat_le}
use Rattle.std.specs.List.{concat}
use Rattle.std.proofs.lemmas.Bool.{cases_Bool}
use Rattle.std.proofs.lemmas.List.{length-drop}
use Rattle.cal_base.specs.Lines.ComponentTrees.{or_else}
use Rattle.cal_base.specs.declared.element.Element.{Element}
use Rattle.cal_base.specs.Xml.XmlNames.{is_xml_text}
use Rattle.cal_base.specs.Xml.XmlMarkup.{Tag, Markup, opening, closing, character, section, reference, skipped, markups, markup_of, referenced}
use Rattle.cal_base.specs.Xml.XmlScopes.{outer_scope}
use Rattle.cal_base.specs.Xml.XmlFaults.{Why, syntax, Fault, fault_at, is_declaration, declaration_fault, tag_fault, greatest_depth, references_fault, no_markup_fault, first_fault, fault_behind, mark_size, markup_fault, can_stand, own_fault, tags_behind, rooted_behind}
use Rattle.cal_base.specs.Xml.XmlBodies.{Part, said, held, with_line_feeds, Level, element_of_tag, with_part, with_opening, levels_before, first_element, outermost, without_declaration}
use Rattle.cal_base.proofs.Xml.XmlMarkupLemmas.{concat-markups}
use Rattle.dav_write.specs.Readable.{HasTag, AreParts, IsReadable, IsSpellable, ReadingGives}
use Rattle.dav_write.proofs.ReadBack.Spelling.{scope_in}

-- a tag that was read, and that can stand
pub record IsTagRead (tag : Tag) (around : List Tag) : Type 0 where
  pub text : List ℕ
  pub is : markup_of text ≡ Some (opening tag)
  pub small : length text < 2 ^ 64
  pub stands_there : tag_fault around tag ≡ None

abbrev pub AreRead : List Tag → Type 0
AreRead [] = ⊤
AreRead (tag ∷ around) = IsTagRead tag around × AreRead around

-- what is to be known of a tag
abbrev pub TagGiven : Type 0
TagGiven = (tag : Tag) (around : List Tag) → IsTagRead tag around → AreRead around → (level : Level) → HasTag (element_of_tag tag level (scope_in around))

-- what is to be known of text
abbrev pub SaidFine : Markup → Type 0
SaidFine (opening tag) = ⊤
SaidFine (closing name) = ⊤
SaidFine (character text) = is_xml_text (with_line_feeds text) ≡ true
SaidFine (section text) = is_xml_text (with_line_feeds text) ≡ true
SaidFine (reference name) = is_xml_text (unwrap_or (referenced name) []) ≡ true
SaidFine skipped = ⊤

abbrev pub SaidGiven : Type 0
SaidGiven = (text : List ℕ) (markup : Markup) → markup_of text ≡ Some markup → SaidFine markup

-- how many levels there can be within some tags
abbrev room : List Tag → ℕ
room around = greatest_depth - length around

abbrev AllLevels : List Tag → List Level → Type 0
AllLevels around [] = ⊤
AllLevels [] (level ∷ levels) = AreParts (IsReadable (room [])) (level (scope_in []))
AllLevels (tag ∷ around) (level ∷ levels) = AreParts (IsReadable (room (tag ∷ around))) (level (scope_in (tag ∷ around))) × AllLevels around levels

first_level : (around : List Tag) (level : Level) (levels : List Level) → AllLevels around (level ∷ levels) → AreParts (IsReadable (room around)) (level (scope_in around))
first_level [] level levels all = all
first_level (tag ∷ around) level levels all = all.0

with_first : (around : List Tag) (level grown : Level) (levels : List Level) → AreParts (IsReadable (room around)) (grown (scope_in around)) → AllLevels around (level ∷ levels) → AllLevels around (grown ∷ levels)
with_first [] level grown levels first all = first
with_first (tag ∷ around) level grown levels first all = (first, all.1)

all_said : (around : List Tag) (text : List ℕ) (levels : List Level) → is_xml_text text ≡ true → AllLevels around levels → AllLevels around (with_part (λ scope. said text) levels)
all_said around text [] fine all = all_none around
  where
    all_none : (around : List Tag) → AllLevels around []
    all_none around = tt
all_said around text (level ∷ levels) fine all = with_first around level (λ scope. said text ∷ level scope) levels (fine, first_level around level levels all) all

all_held : (around : List Tag) (tag : Tag) (inner : Level) (levels : List Level) → IsReadable (room around) (element_of_tag tag inner (scope_in around)) → AllLevels around levels → AllLevels around (with_part (λ scope. held (element_of_tag tag inner scope)) levels)
all_held around tag inner [] fine all = tt
all_held around tag inner (level ∷ levels) fine all = with_first around level (λ scope. held (element_of_tag tag inner scope) ∷ level scope) levels (fine, first_level around level levels all) all

-- a tag can stand only at a depth that is allowed
depth_of : (around : List Tag) (tag : Tag) → tag_fault around tag ≡ None → length around < greatest_depth
depth_of around tag e = elim (cases_Bool (nat_le greatest_depth (length around))) [
  | inl over ↦ absurd (too_deep_none over e)
  | inr under ↦ not_le greatest_depth (length around) under
]
  where
    not_le : (a b : ℕ) → nat_le a b ≡ false → b < a
    not_le a b f = omega (arith, Rattle.std.proofs.lemmas.Bool.leb-false a b f)

    three : (bad undeclared over : Bool) → over ≡ true → ◌≡◌ {A = Option Why} (if bad then Some syntax else if undeclared then Some Rattle.cal_base.specs.Xml.XmlFaults.prefix else if over then Some Rattle.cal_base.specs.Xml.XmlFaults.too_deep else None) None → ⊥
    three true undeclared over o h = cc
    three false true over o h = cc
    three false false true o h = cc
    three false false false o h = cc

    too_deep_none : nat_le greatest_depth (length around) ≡ true → tag_fault around tag ≡ None → ⊥
    too_deep_none over h = three _ _ _ over h

readable_tag : TagGiven → (tag : Tag) (around : List Tag) → IsTagRead tag around → AreRead around → (level : Level) → AreParts (IsReadable (room (tag ∷ around))) (level (scope_in (tag ∷ around))) → IsReadable (room around) (element_of_tag tag level (scope_in around))
readable_tag given tag around read before level parts =
    let deep = depth_of around tag read.stands_there in
    let one_more : suc (room (tag ∷ around)) ≡ room around = omega (arith, deep) in
    subst (λ (depth : ℕ). IsReadable depth (element_of_tag tag level (scope_in around))) one_more (given tag around read before level, (level (scope_in (tag ∷ around)), refl, parts))

all_tag : TagGiven → (tag : Tag) (around : List Tag) (empty : Bool) (levels : List Level) → tag.is_empty ≡ empty → IsTagRead tag around → AreRead around → AllLevels (if empty then around else tag ∷ around) levels → AllLevels around (with_opening tag (if empty then (λ scope. []) ∷ levels else levels))
all_tag given tag around true levels e read before all = all_held around tag (λ scope. []) levels (readable_tag given tag around read before (λ scope. []) tt) all
all_tag given tag around false [] e read before all = tt
all_tag given tag around false (level ∷ levels) e read before all = all_held around tag level levels (readable_tag given tag around read before level all.0) all.1

-- One markup
all_step : TagGiven → (markup : Markup) (around : List Tag) (levels : List Markup) → SaidFine markup → ((tag : Tag) → markup ≡ opening tag → IsTagRead tag around) → AreRead around → AllLevels (tags_behind around markup) (levels_before levels) → AllLevels around (levels_before (markup ∷ levels))
all_step given (opening tag) around more fine reads before all = all_tag given tag around tag.is_empty (levels_before more) refl (reads tag refl) before all
all_step given (closing name) [] more fine reads before all = tt
all_step given (closing name) (tag ∷ around) more fine reads before all = (tt, all)
all_step given (character text) around more fine reads before all = all_said around (with_line_feeds text) (levels_before more) fine all
all_step given (section text) around more fine reads before all = all_said around (with_line_feeds text) (levels_before more) fine all
all_step given (reference name) around more fine reads before all = all_said around (unwrap_or (referenced name) []) (levels_before more) fine all
all_step given skipped around more fine reads before all = all

-- All markups

-- each text of a list is short
abbrev AreShort : List (List ℕ) → Type 0
AreShort [] = ⊤
AreShort (text ∷ texts) = (length text < 2 ^ 64) × AreShort texts

short_of : (texts : List (List ℕ)) → length (concat texts) < 2 ^ 64 → AreShort texts
short_of [] h = tt
short_of (text ∷ texts) h = (omega (arith, length-append text (concat texts)), short_of texts (omega (arith, length-append text (concat texts))))

or_none : (one other : Option Fault) → or_else one other ≡ None → other ≡ None
or_none None other e = e
or_none (Some x) other e = absurd cc

-- what a text without a fault is
record Goes (end : ℕ) (around : List Tag) (rooted : Bool) (place : ℕ) (text : List ℕ) (texts : List (List ℕ)) : Type 0 where
  markup : Markup
  is : markup_of text ≡ Some markup
  can : markup_fault around rooted markup ≡ None
  on : first_fault end (tags_behind around markup) (rooted_behind rooted markup) (place + length text) texts ≡ None

goes : (end : ℕ) (around : List Tag) (rooted : Bool) (place : ℕ) (text : List ℕ) (texts : List (List ℕ)) → first_fault end around rooted place (text ∷ texts) ≡ None → Goes end around rooted place text texts
goes end around rooted place text texts h = by_found (markup_of text) refl h
  where
    by_fault : (markup : Markup) → markup_of text ≡ Some markup → (fault : Option Why) → markup_fault around rooted markup ≡ fault
        → ◌≡◌ {A = Option Fault} (elim fault [ Some why ↦ Some (fault_at place why) | None ↦ or_else (references_fault place text) (first_fault end (tags_behind around markup) (rooted_behind rooted markup) (place + length text) texts) ]) None
        → Goes end around rooted place text texts
    by_fault markup is None can k = record { markup = markup; is = is; can = can; on = or_none _ _ k }
    by_fault markup is (Some why) can k = absurd cc

    by_found : (found : Option Markup) → markup_of text ≡ found
        → ◌≡◌ {A = Option Fault} (elim found [
          | None ↦ Some (no_markup_fault end place text)
          | Some markup ↦ elim (markup_fault around rooted markup) [
            | Some why ↦ Some (fault_at place why)
            | None ↦ or_else (references_fault place text) (first_fault end (tags_behind around markup) (rooted_behind rooted markup) (place + length text) texts)
          ]
        ]) None → Goes end around rooted place text texts
    by_found None is k = absurd cc
    by_found (Some markup) is k = by_fault markup is (markup_fault around rooted markup) refl k

own_none : (around : List Tag) (rooted : Bool) (markup : Markup) → markup_fault around rooted markup ≡ None → own_fault around markup ≡ None
own_none around rooted markup e = by_test (can_stand around rooted markup) e
  where
    by_test : (test : Bool) → (if test then own_fault around markup else Some syntax) ≡ None → own_fault around markup ≡ None
    by_test true h = h
    by_test false h = absurd cc

open_read : (around : List Tag) (markup : Markup) → ((tag : Tag) → markup ≡ opening tag → IsTagRead tag around) → AreRead around → AreRead (tags_behind around markup)
open_read around (opening tag) reads before = by_empty tag.is_empty
  where
    by_empty : (empty : Bool) → AreRead (if empty then around else tag ∷ around)
    by_empty true = before
    by_empty false = (reads tag refl, before)
open_read [] (closing name) reads before = tt
open_read (tag ∷ around) (closing name) reads before = before.1
open_read around (character text) reads before = before
open_read around (section text) reads before = before
open_read around (reference name) reads before = before
open_read around skipped reads before = before

one_more : (text : List ℕ) (texts : List (List ℕ)) (markup : Markup) → markup_of text ≡ Some markup → filter_map markup_of (text ∷ texts) ≡ markup ∷ filter_map markup_of texts
one_more text texts markup e = rw e refl

all_levels : TagGiven → SaidGiven → (end : ℕ) (around : List Tag) (rooted : Bool) (place : ℕ) (texts : List (List ℕ)) → AreRead around → AreShort texts → first_fault end around rooted place texts ≡ None → AllLevels around (levels_before (filter_map markup_of texts))
all_levels given fine end [] rooted place [] before short h = tt
all_levels given fine end (tag ∷ around) rooted place [] before short h = (tt, tt)
all_levels given fine end around rooted place (text ∷ texts) before (small, short) h =
    let g = goes end around rooted place text texts h in
    let reads : (tag : Tag) → g.markup ≡ opening tag → IsTagRead tag around = λ tag e.
    record { text = text; is = g.is ∙ ap (λ (m : Markup). Some m) e; small = small; stands_there = ap (own_fault around) (sym e) ∙ own_none around rooted g.markup g.can } in
    rw (one_more text texts g.markup g.is)
    (all_step given g.markup around (filter_map markup_of texts) (fine text g.markup g.is) reads before
    (all_levels given fine end (tags_behind around g.markup) (rooted_behind rooted g.markup) (place + length text) texts (open_read around g.markup reads before) short g.on))

-- The root

first_readable : (depth : ℕ) (parts : List Part) (element : Element) → AreParts (IsReadable depth) parts → first_element parts ≡ Some element → IsReadable depth element
first_readable depth [] element are e = absurd cc
first_readable depth (said text ∷ parts) element are e = first_readable depth parts element are.1 e
first_readable depth (held one ∷ parts) element are e = subst (IsReadable depth) (Rattle.std.proofs.lemmas.Option.same_Some one element e) are.0

root_readable : (levels : List Level) (element : Element) → AllLevels [] levels → outermost levels ≡ Some element → IsReadable greatest_depth element
root_readable [] element all e = absurd cc
root_readable (level ∷ levels) element all e = first_readable greatest_depth (level outer_scope) element all e

behind_declaration : (end place : ℕ) (texts : List (List ℕ)) → AreShort texts → fault_behind end place texts ≡ None → (at : ℕ) × (first_fault end [] false at (without_declaration texts) ≡ None) × AreShort (without_declaration texts)
behind_declaration end place [] short h = (place, h, tt)
behind_declaration end place (text ∷ texts) (small, short) h = by_test (is_declaration text) h
  where
    by_test : (test : Bool) → ◌≡◌ {A = Option Fault} (if test then or_else (declaration_fault end place text) (first_fault end [] false (place + length text) texts) else first_fault end [] false place (text ∷ texts)) None
        → (at : ℕ) × (first_fault end [] false at (if test then texts else text ∷ texts) ≡ None) × AreShort (if test then texts else text ∷ texts)
    by_test true k = (place + length text, or_none _ _ k, short)
    by_test false k = (place, k, (small, short))

pub reading_gives : TagGiven → SaidGiven → ReadingGives
unfolding IsSpellable
reading_gives given fine octets element small body =
    let behind = drop (mark_size octets) octets in
    let texts = markups behind in
    let fewer : length (concat texts) < 2 ^ 64 = omega (arith, small, ap (λ (text : List ℕ). length text) (concat-markups behind), length-drop (mark_size octets) octets) in
    let (place, none, short) = behind_declaration (length octets) (mark_size octets) texts (short_of texts fewer) body.sound in
    root_readable (levels_before (filter_map markup_of (without_declaration texts))) element
    (all_levels given fine (length octets) [] false place (without_declaration texts) tt short none)
    body.spelled
