-- A list that is walked by places: what begins at a place, and the alarms that stand before it.
use Rattle.std.proofs.Common.{◌≡◌, ℕ, ◌+◌, ◌<◌, zero, suc, List, [], ◌∷◌, length, drop, get_or, refl, ap, sym, ◌∙◌, arith, add-zero, Bool, true, false, cond, Some}
use Rattle.std.specs.List.{slice_get}
use Rattle.std.proofs.lemmas.List.Sums.{count_by_more_yes, count_by_more_no}
use Rattle.cal_base.specs.declared.line.Node.{Node}
use Rattle.cal_model.specs.Filters.ComponentRanges.{has_trigger}
use Rattle.cal_model.specs.Objects.ComponentLines.{children_of}
use Rattle.filter_eval.specs.Places.{alarms_in}

-- what begins at a place is read there
pub record StandsAt {X : Type 0} (xs : List X) (place : ℕ) (x : X) (behind : List X) : Type 0 where
  pub within : place < length xs
  pub read : get_or xs place x ≡ x
  pub found : slice_get xs place ≡ Some x
  pub next : drop (place + 1) xs ≡ behind

pub at_front : {X : Type 0} (xs : List X) (place : ℕ) (x : X) (behind : List X) → drop place xs ≡ x ∷ behind → StandsAt xs place x behind
at_front [] zero x behind is = absurd cc
at_front [] (suc place) x behind is = absurd cc
at_front (y ∷ ys) zero x behind is =
    let first : y ≡ x = cc in
    let rest : ys ≡ behind = cc in
    let one : 0 + 1 ≡ suc 0 = refl in
    record { within = omega arith; read = first; found = ap Some first; next = ap (λ (n : ℕ). drop n (y ∷ ys)) one ∙ rest }
at_front (y ∷ ys) (suc place) x behind is =
    let inner = at_front ys place x behind is in
    let longer : suc place + 1 ≡ suc (place + 1) = omega arith in
    record { within = omega (arith, inner.within); read = inner.read; found = inner.found; next = ap (λ (n : ℕ). drop n (y ∷ ys)) longer ∙ inner.next }

-- the alarms before the next place

pub alarms_more : (node : Node) (place : ℕ) (child : Node) (behind : List Node) → drop place (children_of node) ≡ child ∷ behind → alarms_in node (place + 1) ≡ alarms_in node place + cond (has_trigger child) 1 0
alarms_more node place child behind is = by_test (has_trigger child) refl
  where
    here : StandsAt (children_of node) place child behind
    here = at_front (children_of node) place child behind is

    by_test : (test : Bool) → has_trigger child ≡ test → alarms_in node (place + 1) ≡ alarms_in node place + cond test 1 0
    by_test true has = count_by_more_yes has_trigger (children_of node) place child here.within (ap has_trigger here.read ∙ has)
    by_test false lacks = count_by_more_no has_trigger (children_of node) place child here.within (ap has_trigger here.read ∙ lacks) ∙ sym (add-zero (alarms_in node place))
