-- One calendar: where so many seconds fit behind a moment, and how far the seconds behind a moment are free.
use Rattle.std.proofs.Common.{◌≡◌, ℕ, true, false, List, [], ◌∷◌, sym, subst, ◌∙◌, inl, inr, arith}
use Rattle.std.specs.Prelude.{ℤ, pos, ◌+ℤ◌, ◌≤ℤ◌, ◌<ℤ◌, int_le, filter, All}
use Rattle.std.specs.Int.{int_min}
use Rattle.std.proofs.lemmas.Int.{ints}
use Rattle.std.proofs.lemmas.List.Elements.{All-nil, All-cons, All-head, All-tail, All-filter}
use Rattle.freebusy.specs.declared.busy.Run.{Run}
use Rattle.slot_finder.specs.FreeTimes.{AreInOrder}
use Rattle.slot_finder.specs.Fits.{ends_behind, IsOutside, AreOutside, IsFirstFit, IsOpenUntil}
use Rattle.slot_finder.proofs.Comparisons.{le_of, above_of, lesser_first, lesser_second, lesser_last}
use Rattle.slot_finder.proofs.RunsBehind.{order_behind, end_behind, outside_behind, order_tail, end_later, outside_from}

-- The runs that are left where a moment was found that fits those passed, and none before it does.
pub record IsFitting (runs rest : List Run) (seconds : ℕ) (at found : ℤ) : Type 0 where
  pub later : at ≤ℤ found
  pub first : (other : ℤ) → at ≤ℤ other → AreOutside other (other +ℤ pos seconds) runs → found ≤ℤ other
  pub order : AreInOrder rest
  pub ahead : All (λ (run : Run). found <ℤ run.end.0) rest
  pub part : (low high : ℤ) → AreOutside low high runs → AreOutside low high rest
  pub whole : (low high : ℤ) → found ≤ℤ low → AreOutside low high rest → AreOutside low high runs

pub fitting_first : (runs : List Run) (seconds : ℕ) (at : ℤ) → AreInOrder runs → All (λ (run : Run). at <ℤ run.end.0) runs → IsFitting runs runs seconds at at
fitting_first runs seconds at order ahead = record {
  later = omega (arith, ints);
  first = λ other from outside. from;
  order = order;
  ahead = ahead;
  part = λ low high outside. outside;
  whole = λ low high from outside. outside;
}

-- what fits the runs that end behind a moment fits them all
pub fit_whole : (runs rest : List Run) (seconds : ℕ) (at found : ℤ) → rest ≡ filter (ends_behind at) runs → IsFirstFit rest seconds at found → IsFirstFit runs seconds at found
fit_whole runs rest seconds at found is fit = record {
  later = fit.later;
  outside = outside_behind runs at found (found +ℤ pos seconds) fit.later (subst (AreOutside found (found +ℤ pos seconds)) is fit.outside);
  first = λ other from outside.
      fit.first other from (subst (AreOutside other (other +ℤ pos seconds)) (sym is) (All-filter (ends_behind at) (IsOutside other (other +ℤ pos seconds)) runs outside));
}

-- the runs that end behind a moment are in order, and do
pub order_of_rest : (runs rest : List Run) (at : ℤ) → AreInOrder runs → rest ≡ filter (ends_behind at) runs → AreInOrder rest
order_of_rest runs rest at order is = subst AreInOrder (sym is) (order_behind runs at order)

pub ends_of_rest : (runs rest : List Run) (at : ℤ) → rest ≡ filter (ends_behind at) runs → All (λ (run : Run). at <ℤ run.end.0) rest
ends_of_rest runs rest at is = subst (All (λ (run : Run). at <ℤ run.end.0)) (sym is) (end_behind runs at)

-- a moment from which a run leaves no room comes no later than its end, where the run lies outside
past_run : (run : Run) (found other : ℤ) (seconds : ℕ) → IsOutside other (other +ℤ pos seconds) run → found ≤ℤ other → run.start.0 <ℤ (found +ℤ pos seconds) → run.end.0 ≤ℤ other
past_run run found other seconds (inl over) from near = over
past_run run found other seconds (inr behind) from near = absurd (omega (arith, ints, behind, from, near))

pub fitting_next : (runs rest behind : List Run) (run : Run) (seconds : ℕ) (at found : ℤ) → rest ≡ run ∷ behind → IsFitting runs rest seconds at found → int_le (found +ℤ pos seconds) run.start.0 ≡ false
    → IsFitting runs behind seconds at run.end.0
fitting_next runs rest behind run seconds at found is fitting near =
    let order : AreInOrder (run ∷ behind) = subst AreInOrder is fitting.order in
    let here : found <ℤ run.end.0 = All-head (λ (r : Run). found <ℤ r.end.0) run behind (subst (All (λ (r : Run). found <ℤ r.end.0)) is fitting.ahead) in
    let starts : run.start.0 <ℤ (found +ℤ pos seconds) = above_of (found +ℤ pos seconds) run.start.0 near in
    let so_far = fitting.later in
    record {
      later = omega (arith, ints, so_far, here);
      first = λ other from outside.
          let left : AreOutside other (other +ℤ pos seconds) (run ∷ behind) = subst (AreOutside other (other +ℤ pos seconds)) is (fitting.part other (other +ℤ pos seconds) outside) in
          past_run run found other seconds (All-head (IsOutside other (other +ℤ pos seconds)) run behind left) (fitting.first other from outside) starts;
      order = order_tail run behind order;
      ahead = end_later run behind order;
      part = λ low high outside. All-tail (IsOutside low high) run behind (subst (AreOutside low high) is (fitting.part low high outside));
      whole = λ low high from outside.
          fitting.whole low high (omega (arith, ints, here, from)) (subst (AreOutside low high) (sym is) (All-cons (IsOutside low high) run behind (inl from) outside));
    }

pub fitting_room : (runs rest behind : List Run) (run : Run) (seconds : ℕ) (at found : ℤ) → rest ≡ run ∷ behind → IsFitting runs rest seconds at found → int_le (found +ℤ pos seconds) run.start.0 ≡ true
    → IsFirstFit runs seconds at found
fitting_room runs rest behind run seconds at found is fitting room =
    let order : AreInOrder (run ∷ behind) = subst AreInOrder is fitting.order in
    let far : (found +ℤ pos seconds) ≤ℤ run.start.0 = le_of (found +ℤ pos seconds) run.start.0 room in
    record {
      later = fitting.later;
      outside = fitting.whole found (found +ℤ pos seconds) (omega (arith, ints))
          (subst (AreOutside found (found +ℤ pos seconds)) (sym is) (outside_from run behind found (found +ℤ pos seconds) order far));
      first = fitting.first;
    }

pub fitting_end : (runs rest : List Run) (seconds : ℕ) (at found : ℤ) → rest ≡ [] → IsFitting runs rest seconds at found → IsFirstFit runs seconds at found
fitting_end runs rest seconds at found none fitting = record {
  later = fitting.later;
  outside = fitting.whole found (found +ℤ pos seconds) (omega (arith, ints)) (subst (AreOutside found (found +ℤ pos seconds)) (sym none) (All-nil (IsOutside found (found +ℤ pos seconds))));
  first = fitting.first;
}

-- How far the seconds from a moment on are free.

not_over : (run : Run) (at other : ℤ) → at <ℤ run.end.0 → IsOutside at other run → other ≤ℤ run.start.0
not_over run at other later (inl over) = absurd (omega (arith, ints, later, over))
not_over run at other later (inr behind) = behind

pub open_until_run : (runs rest behind : List Run) (run : Run) (at limit found : ℤ) → AreInOrder runs → rest ≡ filter (ends_behind at) runs → rest ≡ run ∷ behind → found ≡ int_min run.start.0 limit
    → IsOpenUntil runs at limit found
open_until_run runs rest behind run at limit found order is first least =
    let same : filter (ends_behind at) runs ≡ run ∷ behind = sym is ∙ first in
    let left : AreInOrder (run ∷ behind) = subst AreInOrder same (order_behind runs at order) in
    let here : at <ℤ run.end.0 = All-head (λ (r : Run). at <ℤ r.end.0) run behind (subst (All (λ (r : Run). at <ℤ r.end.0)) same (end_behind runs at)) in
    record {
      bound = lesser_second run.start.0 limit found least;
      outside = outside_behind runs at at found (omega (arith, ints))
          (subst (AreOutside at found) (sym same) (outside_from run behind at found left (lesser_first run.start.0 limit found least)));
      last = λ other below outside.
          let kept : AreOutside at other (run ∷ behind) = subst (AreOutside at other) same (All-filter (ends_behind at) (IsOutside at other) runs outside) in
          lesser_last run.start.0 limit found other least (not_over run at other here (All-head (IsOutside at other) run behind kept)) below;
    }

pub open_until_limit : (runs rest : List Run) (at limit : ℤ) → rest ≡ filter (ends_behind at) runs → rest ≡ [] → IsOpenUntil runs at limit limit
open_until_limit runs rest at limit is none = record {
  bound = omega (arith, ints);
  outside = outside_behind runs at at limit (omega (arith, ints)) (subst (AreOutside at limit) (sym none ∙ is) (All-nil (IsOutside at limit)));
  last = λ other below outside. below;
}
