-- Each text is a body with one element, or has one first fault, and not both.
use Rattle.std.specs.Prelude.{◌≡◌, ℕ, suc, ◌+◌, Bool, true, false, if◌then◌else◌, List, [], ◌∷◌, length, drop, filter_map, Option, Some, None, ◌⊎◌}
use Rattle.std.proofs.Common.{inl, inr, arith, refl, sym, ap, ◌∙◌}
use Rattle.std.proofs.lemmas.Option.{same_Some}
use Rattle.cal_base.specs.declared.element.Element.{Element}
use Rattle.cal_base.specs.Lines.ComponentTrees.{or_else}
use Rattle.cal_base.specs.Xml.XmlMarkup.{Tag, Markup, opening, closing, character, section, reference, skipped, markups, markup_of}
use Rattle.cal_base.specs.Xml.XmlScopes.{Scope}
use Rattle.cal_base.specs.Xml.XmlFaults.{Why, Fault, syntax, fault_at, tags_behind, rooted_behind, can_stand, own_fault, markup_fault, references_fault, no_markup_fault, end_fault, first_fault, is_declaration, declaration_fault, fault_behind, mark_size, body_fault}
use Rattle.cal_base.specs.Xml.XmlBodies.{Part, said, Level, with_part, with_tag, levels_before, outermost, without_declaration, IsBody, IsBodyFault}

-- Not both

pub IsBody-one : (octets : List ℕ) (element other : Element) → IsBody octets element → IsBody octets other → element ≡ other
IsBody-one octets element other one two = same_Some element other (sym one.spelled ∙ two.spelled)

pub IsBodyFault-one : (octets : List ℕ) (place other_place : ℕ) (why other_why : Why) → IsBodyFault octets place why → IsBodyFault octets other_place other_why → (place ≡ other_place) × (why ≡ other_why)
IsBodyFault-one octets place other_place why other_why one two =
    let same : fault_at place why ≡ fault_at other_place other_why = same_Some _ _ (sym one ∙ two) in
    (ap (λ (fault : Fault). fault.place) same, ap (λ (fault : Fault). fault.why) same)

pub IsBody-no_fault : (octets : List ℕ) (element : Element) (place : ℕ) (why : Why) → IsBody octets element → IsBodyFault octets place why → ⊥
IsBody-no_fault octets element place why one two =
    let no : None ≡ Some (fault_at place why) = sym one.sound ∙ two in
    cc

-- One of both

or_else-None : {X : Type 0} (one other : Option X) → or_else one other ≡ None → (one ≡ None) × (other ≡ None)
or_else-None None other e = (refl, e)
or_else-None (Some x) other e = absurd cc

-- the first markup of a list without a fault, and the list behind it
record Goes (end : ℕ) (around : List Tag) (rooted : Bool) (place : ℕ) (text : List ℕ) (texts : List (List ℕ)) : Type 0 where
  markup : Markup
  is : markup_of text ≡ Some markup
  stands : can_stand around rooted markup ≡ true
  on : first_fault end (tags_behind around markup) (rooted_behind rooted markup) (place + length text) texts ≡ None

stands_of : (around : List Tag) (rooted : Bool) (markup : Markup) → markup_fault around rooted markup ≡ None → can_stand around rooted markup ≡ true
stands_of around rooted markup e = by_test (can_stand around rooted markup) e
  where
    by_test : (test : Bool) → (if test then own_fault around markup else Some syntax) ≡ None → test ≡ true
    by_test true h = refl
    by_test false h = absurd cc

-- the faults of a markup and of those behind it
abbrev faults_with : ℕ → List Tag → Bool → ℕ → List ℕ → List (List ℕ) → Markup → Option Why → Option Fault
faults_with end around rooted place text texts markup fault = elim fault [
  | Some why ↦ Some (fault_at place why)
  | None ↦ or_else (references_fault place text) (first_fault end (tags_behind around markup) (rooted_behind rooted markup) (place + length text) texts)
]

goes_behind : (end : ℕ) (around : List Tag) (rooted : Bool) (place : ℕ) (text : List ℕ) (texts : List (List ℕ)) (markup : Markup) (fault : Option Why) → markup_fault around rooted markup ≡ fault → markup_of text ≡ Some markup →
    faults_with end around rooted place text texts markup fault ≡ None → Goes end around rooted place text texts
goes_behind end around rooted place text texts markup None f e h =
    record { markup = markup; is = e; stands = stands_of around rooted markup f; on = (or_else-None _ _ h).1 }
goes_behind end around rooted place text texts markup (Some why) f e h = absurd cc

goes_of : (end : ℕ) (around : List Tag) (rooted : Bool) (place : ℕ) (text : List ℕ) (texts : List (List ℕ)) (found : Option Markup) → markup_of text ≡ found →
    ◌≡◌ {A = Option Fault} (elim found [
      | None ↦ Some (no_markup_fault end place text)
      | Some markup ↦ faults_with end around rooted place text texts markup (markup_fault around rooted markup)
    ]) None → Goes end around rooted place text texts
goes_of end around rooted place text texts None e h = absurd cc
goes_of end around rooted place text texts (Some markup) e h = goes_behind end around rooted place text texts markup (markup_fault around rooted markup) refl e h

goes : (end : ℕ) (around : List Tag) (rooted : Bool) (place : ℕ) (text : List ℕ) (texts : List (List ℕ)) → first_fault end around rooted place (text ∷ texts) ≡ None → Goes end around rooted place text texts
goes end around rooted place text texts h = goes_of end around rooted place text texts (markup_of text) refl h

-- the markup of a list
filter_map-Some : (text : List ℕ) (texts : List (List ℕ)) (markup : Markup) → markup_of text ≡ Some markup → filter_map markup_of (text ∷ texts) ≡ markup ∷ filter_map markup_of texts
filter_map-Some text texts markup e = rw e refl

-- Levels

with_part-length : (part : Scope → Part) (levels : List Level) → length (with_part part levels) ≡ length levels
with_part-length part [] = refl
with_part-length part (level ∷ levels) = refl

-- one more markup that can stand, before levels that are one more than the tags open behind it
with_tag-length : (tag : Tag) (empty : Bool) (around : List Tag) (levels : List Level) → tag.is_empty ≡ empty → length levels ≡ suc (length (if empty then around else tag ∷ around)) → length (with_tag tag levels) ≡ suc (length around)
with_tag-length tag true around levels e h = rw e (with_part-length _ levels ∙ h)
with_tag-length tag false around [] e h = absurd (omega arith)
with_tag-length tag false around (level ∷ levels) e h = rw e (with_part-length _ levels ∙ omega arith)

one_more : (around : List Tag) (rooted : Bool) (markup : Markup) (levels : List Markup) → can_stand around rooted markup ≡ true → length (levels_before levels) ≡ suc (length (tags_behind around markup)) → length (levels_before (markup ∷ levels)) ≡ suc (length around)
one_more around rooted (opening tag) more s h = with_tag-length tag tag.is_empty around (levels_before more) refl h
one_more [] rooted (closing name) more s h = absurd cc
one_more (tag ∷ around) rooted (closing name) more s h = omega arith
one_more around rooted (character text) more s h = with_part-length _ (levels_before more) ∙ h
one_more around rooted (section text) more s h = with_part-length _ (levels_before more) ∙ h
one_more around rooted (reference name) more s h = with_part-length _ (levels_before more) ∙ h
one_more around rooted skipped more s h = h

-- where the root is closed no tag is open
end_closed : (end : ℕ) (around : List Tag) (rooted : Bool) → end_fault end around rooted ≡ None → (rooted ≡ true) × (around ≡ [])
end_closed end [] true h = (refl, refl)
end_closed end [] false h = absurd cc
end_closed end (tag ∷ around) true h = absurd cc
end_closed end (tag ∷ around) false h = absurd cc

-- the levels of a list without a fault are one more than the tags that are open before it
levels-length : (end : ℕ) (around : List Tag) (rooted : Bool) (place : ℕ) (texts : List (List ℕ)) → first_fault end around rooted place texts ≡ None → length (levels_before (filter_map markup_of texts)) ≡ suc (length around)
levels-length end around rooted place [] h = ap (λ (tags : List Tag). suc (length tags)) (sym (end_closed end around rooted h).1)
levels-length end around rooted place (text ∷ texts) h =
    let first = goes end around rooted place text texts h in
    let more = levels-length end (tags_behind around first.markup) (rooted_behind rooted first.markup) (place + length text) texts first.on in
    rw (filter_map-Some text texts first.markup first.is) (one_more around rooted first.markup (filter_map markup_of texts) first.stands more)

-- Before the root there is one level, and it gets the root

abbrev IsRooted : List Level → Type 0
IsRooted levels = (element : Element) × (outermost levels ≡ Some element)

rooted_text : (text : List ℕ) (levels : List Level) → IsRooted levels → IsRooted (with_part (λ scope. said text) levels)
rooted_text text [] (element, e) = absurd cc
rooted_text text (level ∷ levels) (element, e) = (element, e)

rooted_tag : (tag : Tag) (empty : Bool) (levels : List Level) → tag.is_empty ≡ empty → length levels ≡ suc (length (if empty then [] else tag ∷ [])) → IsRooted (with_tag tag levels)
rooted_tag tag true [] e h = absurd (omega arith)
rooted_tag tag true (level ∷ levels) e h = rw e (_, refl)
rooted_tag tag false [] e h = absurd (omega arith)
rooted_tag tag false (level ∷ []) e h = absurd (omega arith)
rooted_tag tag false (level ∷ around ∷ levels) e h = rw e (_, refl)

-- one more markup before a root
root_comes : (end place : ℕ) (markup : Markup) (texts : List (List ℕ)) → can_stand [] false markup ≡ true →
    first_fault end (tags_behind [] markup) (rooted_behind false markup) place texts ≡ None →
    (first_fault end [] false place texts ≡ None → IsRooted (levels_before (filter_map markup_of texts))) →
    IsRooted (levels_before (markup ∷ filter_map markup_of texts))
root_comes end place (opening tag) texts s h more =
    rooted_tag tag tag.is_empty (levels_before (filter_map markup_of texts)) refl
    (levels-length end (tags_behind [] (opening tag)) true place texts h)
root_comes end place (closing name) texts s h more = absurd cc
root_comes end place (character text) texts s h more = rooted_text _ (levels_before (filter_map markup_of texts)) (more h)
root_comes end place (section text) texts s h more = absurd cc
root_comes end place (reference name) texts s h more = absurd cc
root_comes end place skipped texts s h more = more h

-- a list without a fault has its root
levels_rooted : (end place : ℕ) (texts : List (List ℕ)) → first_fault end [] false place texts ≡ None → IsRooted (levels_before (filter_map markup_of texts))
levels_rooted end place [] h = absurd cc
levels_rooted end place (text ∷ texts) h =
    let first = goes end [] false place text texts h in
    rw (filter_map-Some text texts first.markup first.is)
    (root_comes end (place + length text) first.markup texts first.stands first.on (λ on. levels_rooted end (place + length text) texts on))

-- the same behind a mark and a declaration
behind_rooted : (end place : ℕ) (texts : List (List ℕ)) → fault_behind end place texts ≡ None → IsRooted (levels_before (filter_map markup_of (without_declaration texts)))
behind_rooted end place [] h = levels_rooted end place [] h
behind_rooted end place (text ∷ texts) h = by_test (is_declaration text) h
  where
    by_test : (test : Bool) → ◌≡◌ {A = Option Fault} (if test then or_else (declaration_fault end place text) (first_fault end [] false (place + length text) texts) else first_fault end [] false place (text ∷ texts)) None →
        IsRooted (levels_before (filter_map markup_of (if test then texts else text ∷ texts)))
    by_test true k = levels_rooted end (place + length text) texts (or_else-None _ _ k).1
    by_test false k = levels_rooted end place (text ∷ texts) k

-- a text without a fault has an element
pub IsBody-from_no_fault : (octets : List ℕ) → body_fault octets ≡ None → (element : Element) × IsBody octets element
IsBody-from_no_fault octets h =
    let (element, e) = behind_rooted (length octets) (mark_size octets) (markups (drop (mark_size octets) octets)) h in
    (element, record { sound = h; spelled = e })

-- each text is a body, or has a fault
pub IsBody-or_fault : (octets : List ℕ) → ((element : Element) × IsBody octets element) ⊎ ((place : ℕ) × (why : Why) × IsBodyFault octets place why)
IsBody-or_fault octets = by_fault (body_fault octets) refl
  where
    by_fault : (fault : Option Fault) → body_fault octets ≡ fault → ((element : Element) × IsBody octets element) ⊎ ((place : ℕ) × (why : Why) × IsBodyFault octets place why)
    by_fault None e = inl (IsBody-from_no_fault octets e)
    by_fault (Some fault) e = inr (fault.place, fault.why, e)
