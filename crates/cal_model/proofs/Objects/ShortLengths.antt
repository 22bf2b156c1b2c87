-- The lengths of an object that was read are short.
use Rattle.std.proofs.Common.{◌≡◌, ℕ, suc, List, [], ◌∷◌, map, length, arith, refl, ap, sym, ◌∙◌, Bool, true, false}
use Rattle.std.proofs.lemmas.Option.{slice_get-map}
use Rattle.std.specs.Prelude.{◌||◌, bytes_eq, unwrap_or, Option, Some, None, find, option_map, slice_get, codes, if◌then◌else◌}
use Rattle.std.specs.List.{AllByRecursion as Each, enumerate_from}
use Rattle.std.proofs.lemmas.Bool.{false≢true}
use Rattle.std.proofs.lemmas.Slice.Eq.{bytes_eq-Decides}
use Rattle.std.proofs.lemmas.Option.{none-some}
use Rattle.cal_base.specs.declared.line.Node.{Node}
use Rattle.cal_base.specs.Lines.ContentLines.{Placed}
use Rattle.cal_base.specs.Lines.ComponentTrees.{innermost, depth}
use Rattle.cal_base.specs.declared.line.Line.{Line}
use Rattle.cal_moment.specs.declared.stamp.Length.{Length}
use Rattle.cal_moment.specs.declared.stamp.Period.{Period}
use Rattle.cal_moment.specs.declared.stamp.Stamp.{Stamp}
use Rattle.cal_model.specs.declared.object.Class.{Class}
use Rattle.cal_moment.specs.declared.stamp.Stamp.TheVariants.{Date, Floating, Zoned, Utc}
use Rattle.cal_model.specs.declared.object.Extent.{Extent}
use Rattle.cal_model.specs.declared.object.Extent.TheVariants as extent
use Rattle.cal_model.specs.declared.object.Kind.{Kind}
use Rattle.cal_model.specs.declared.object.Kind.TheVariants.{Event, Todo, Journal, FreeBusy}
use Rattle.cal_model.specs.Values.StampTexts.{periods_in_grammar, has_periods}
use Rattle.cal_model.specs.Objects.LineValues.{has_own_fault, is_short_length, is_of_short_periods, is_of_stamps, is_of_dates, is_of_periods, periods_in, periods_at, stamp_at, value_at, lines_in, own_fault}
use Rattle.cal_model.specs.Values.ValueTexts.{length_of}
use Rattle.cal_model.proofs.Objects.RuleBounds.{map_value, and_then_value, each_found}
use Rattle.cal_model.specs.Objects.ComponentLines.{one_of, has_name, all_of, children_of, lines_of}
use Rattle.cal_model.specs.Objects.ComponentReading.{class_of, stored_busy_of, end_by_start, extent_without_end, extent_of}
use Rattle.cal_model.specs.Objects.ObjectFacts.{IsShort, HasShortEnd, lengths_of_extent}
use Rattle.cal_model.proofs.Objects.TestedLines.{IsTested, test_holds, line_short}
use Rattle.cal_model.proofs.Objects.PlacedComponents.{NodeAt, OuterAt}
use Rattle.cal_model.proofs.Words.EachLemmas.{none_of_map, each_of_find, each-weaker, each-both, each-filter, each_passes, each-map, each-flat_map}
use Rattle.cal_model.specs.Objects.CalendarChildren.{Child}
use Rattle.cal_model.proofs.Objects.ReadingSteps.{IsChildOf}
use Rattle.cal_model.proofs.Objects.ServedDates.{each_numbered, each_at}

-- Lengths that are short

-- a line of the text has no fault of its own
pub line_tested : (placed : List Placed) (k : ℕ) (line : Line) → own_fault placed ≡ None → slice_get (lines_in placed) k ≡ Some line → IsTested (lines_in placed) line
line_tested placed k line none is =
    let lines = lines_in placed in
    let none_found = none_of_map (λ (found : ℕ × Placed). found.1.place) (find (λ (found : ℕ × Placed). has_own_fault lines found.0 found.1.line) (enumerate_from 0 placed)) none in
    let found = map_value (λ (at : Placed). at.line) (slice_get placed k) line (sym (slice_get-map (λ (at : Placed). at.line) placed k) ∙ is) in
    let sound = each_numbered (λ (found : ℕ × Placed). has_own_fault lines found.0 found.1.line ≡ false) 0 placed k found.0 k (omega arith)
    (each_of_find (λ (found : ℕ × Placed). has_own_fault lines found.0 found.1.line) (enumerate_from 0 placed) none_found) found.1 in
    (k, ap (λ l. has_own_fault lines k l) found.2 ∙ sound)

-- the lines of a child
pub child_tested : (placed : List Placed) (tree : Node) (child : Child) → own_fault placed ≡ None → OuterAt (lines_in placed) tree → IsChildOf (children_of tree) child →
    Each (IsTested (lines_in placed)) (lines_of child.tree)
child_tested placed tree child none outer is_child =
    let lines = lines_in placed in
    let at = each_at (λ node. (b : ℕ) × (depth lines b ≡ suc (depth lines outer.0)) × (innermost lines b ≡ Some outer.0) × NodeAt 1 lines b node) (children_of tree) child.number child.tree (outer.2 2).2 is_child in
    each-weaker (λ line place. line_tested placed place.0 line none place.1) (lines_of child.tree) at.3.1

pub passes_step : {X : Type 0} (p : X → Bool) (x y : X) (xs : List X) (b : Bool) → p y ≡ b → (if b then Some y else find p xs) ≡ Some x → (find p xs ≡ Some x → p x ≡ true) → p x ≡ true
passes_step p x y xs true passes found later = ap p (sym (ap (λ o. unwrap_or o x) found)) ∙ passes
passes_step p x y xs false passes found later = later found

pub found_passes : {X : Type 0} (p : X → Bool) (x : X) → (xs : List X) → find p xs ≡ Some x → p x ≡ true
found_passes p x [] is = absurd (none-some x is)
found_passes p x (y ∷ xs) is = passes_step p x y xs (p y) refl is (found_passes p x xs)

pub duration_short : (all lines : List Line) (length : Length) → Each (IsTested all) lines → value_at length_of (codes "DURATION") lines ≡ Some length → IsShort length
duration_short all lines length tested is =
    let found = and_then_value (λ (line : Line). length_of line.value) (one_of (codes "DURATION") lines) length is in
    let test = test_holds all (codes "DURATION") (λ line. is_short_length (length_of line.value)) found.0 refl (found_passes (has_name (codes "DURATION")) found.0 lines found.1)
    (each_found (IsTested all) (has_name (codes "DURATION")) lines tested found.0 found.1) in
    sym (ap is_short_length found.2) ∙ test

pub end_by_start-lengths : (kind : Kind) (start : Option Stamp) → lengths_of_extent (end_by_start kind start) ≡ []
end_by_start-lengths Event None = refl
end_by_start-lengths Event (Some (Date day)) = refl
end_by_start-lengths Event (Some (Floating local)) = refl
end_by_start-lengths Event (Some (Zoned local number)) = refl
end_by_start-lengths Event (Some (Utc moment)) = refl
end_by_start-lengths Journal None = refl
end_by_start-lengths Journal (Some (Date day)) = refl
end_by_start-lengths Journal (Some (Floating local)) = refl
end_by_start-lengths Journal (Some (Zoned local number)) = refl
end_by_start-lengths Journal (Some (Utc moment)) = refl
end_by_start-lengths Todo None = refl
end_by_start-lengths Todo (Some (Date day)) = refl
end_by_start-lengths Todo (Some (Floating local)) = refl
end_by_start-lengths Todo (Some (Zoned local number)) = refl
end_by_start-lengths Todo (Some (Utc moment)) = refl
end_by_start-lengths FreeBusy None = refl
end_by_start-lengths FreeBusy (Some (Date day)) = refl
end_by_start-lengths FreeBusy (Some (Floating local)) = refl
end_by_start-lengths FreeBusy (Some (Zoned local number)) = refl
end_by_start-lengths FreeBusy (Some (Utc moment)) = refl

-- what holds of the length that a DURATION says holds of the lengths of an extent
lasting_lengths : (P : Length → Type 0) (kind : Kind) (start : Option Stamp) (length : Option Length) → ((l : Length) → length ≡ Some l → P l) → Each P (lengths_of_extent (extent_without_end kind start length))
lasting_lengths P kind start (Some length) each = (each length refl, tt)
lasting_lengths P kind start None each = rw (end_by_start-lengths kind start) tt

by_due : (P : Length → Type 0) (due : Option Stamp) (other : Extent) → Each P (lengths_of_extent other) → Each P (lengths_of_extent (unwrap_or (option_map extent.Due due) other))
by_due P None other each = each
by_due P (Some due) other each = tt

by_end : (P : Length → Type 0) (end : Option Stamp) (other : Extent) → Each P (lengths_of_extent other) → Each P (lengths_of_extent (unwrap_or (option_map extent.End end) other))
by_end P None other each = each
by_end P (Some end) other each = tt

abbrev end_beside : List (List ℕ) → Kind → List Line → Extent
end_beside zones kind lines = extent_without_end kind (stamp_at zones (codes "DTSTART") lines) (value_at length_of (codes "DURATION") lines)

pub extent_lengths : (P : Length → Type 0) (zones : List (List ℕ)) (kind : Kind) (lines : List Line) → ((length : Length) → value_at length_of (codes "DURATION") lines ≡ Some length → P length) →
    Each P (lengths_of_extent (extent_of zones kind lines))
extent_lengths P zones kind lines each = of_kind kind (lasting_lengths P kind (stamp_at zones (codes "DTSTART") lines) (value_at length_of (codes "DURATION") lines) each)
  where
    of_kind : (k : Kind) → Each P (lengths_of_extent (end_beside zones k lines)) → Each P (lengths_of_extent (extent_of zones k lines))
    of_kind Todo = by_due P (stamp_at zones (codes "DUE") lines) (end_beside zones Todo lines)
    of_kind Event = by_end P (stamp_at zones (codes "DTEND") lines) (end_beside zones Event lines)
    of_kind Journal = by_end P (stamp_at zones (codes "DTEND") lines) (end_beside zones Journal lines)
    of_kind FreeBusy = by_end P (stamp_at zones (codes "DTEND") lines) (end_beside zones FreeBusy lines)

pub extent_short : (zones : List (List ℕ)) (all lines : List Line) (kind : Kind) → Each (IsTested all) lines → Each IsShort (lengths_of_extent (extent_of zones kind lines))
extent_short zones all lines kind tested = extent_lengths IsShort zones kind lines (λ length is. duration_short all lines length tested is)

-- periods

pub if_true : (P : Period → Type 0) (xs : List Period) (b : Bool) → (b ≡ true → Each P xs) → Each P (if b then xs else [])
if_true P xs true facts = facts refl
if_true P xs false facts = tt

-- the test of an RDATE, where it has periods
pub test_of_dates : (line : Line) (b other : Bool) → b ≡ true → (if b then is_of_short_periods line else other) ≡ true → is_of_short_periods line ≡ true
test_of_dates line true other is test = test
test_of_dates line false other is test = absurd (false≢true is)

pub or_false : (a b : Bool) → b ≡ false → (a || b) ≡ true → a ≡ true
or_false true b none is = refl
or_false false b none is = absurd (false≢true (sym none ∙ is))

pub date_line_short : (zones : List (List ℕ)) (all : List Line) (line : Line) → has_name (codes "RDATE") line ≡ true → IsTested all line → Each HasShortEnd (periods_in zones line)
date_line_short zones all line named tested =
    let other : has_name (codes "FREEBUSY") line ≡ false = ap (λ n. bytes_eq n (codes "FREEBUSY")) ((bytes_eq-Decides line.name (codes "RDATE")).0 named) in
    if_true HasShortEnd (unwrap_or (periods_in_grammar zones line) []) (is_of_periods line)
    (λ is. line_short zones line (test_of_dates line (has_periods line) (is_of_stamps line) (or_false (has_periods line) (has_name (codes "FREEBUSY") line) other is) (test_holds all (codes "RDATE") is_of_dates line refl named tested)))

pub busy_line_short : (zones : List (List ℕ)) (all : List Line) (line : Line) → has_name (codes "FREEBUSY") line ≡ true → IsTested all line → Each HasShortEnd (periods_in zones line)
busy_line_short zones all line named tested =
    if_true HasShortEnd (unwrap_or (periods_in_grammar zones line) []) (is_of_periods line) (λ is. line_short zones line (test_holds all (codes "FREEBUSY") is_of_short_periods line refl named tested))

pub lines_tested : (all : List Line) (name : List ℕ) (lines : List Line) → Each (IsTested all) lines → Each (λ line. IsTested all line × (has_name name line ≡ true)) (all_of name lines)
lines_tested all name lines tested =
    each-both (IsTested all) (λ line. has_name name line ≡ true) (all_of name lines) (each-filter (IsTested all) (has_name name) lines tested) (each_passes (has_name name) lines)

pub periods_short : (zones : List (List ℕ)) (all lines : List Line) → Each (IsTested all) lines → Each HasShortEnd (periods_at zones (codes "RDATE") lines)
periods_short zones all lines tested =
    each-flat_map HasShortEnd (periods_in zones) (all_of (codes "RDATE") lines)
    (each-weaker (λ line facts. date_line_short zones all line facts.1 facts.0) (all_of (codes "RDATE") lines) (lines_tested all (codes "RDATE") lines tested))

pub busy_short : (zones : List (List ℕ)) (all lines : List Line) → Each (IsTested all) lines → Each (λ (entry : Option Class × Period). HasShortEnd entry.1) (stored_busy_of zones lines)
busy_short zones all lines tested =
    each-flat_map (λ (entry : Option Class × Period). HasShortEnd entry.1) (λ (line : Line). map (λ period. (class_of line, period)) (periods_in zones line)) (all_of (codes "FREEBUSY") lines)
    (each-weaker (λ line facts. each-map (λ (entry : Option Class × Period). HasShortEnd entry.1) (λ period. (class_of line, period)) (periods_in zones line) (busy_line_short zones all line facts.1 facts.0)) (all_of (codes "FREEBUSY") lines) (lines_tested all (codes "FREEBUSY") lines tested))
