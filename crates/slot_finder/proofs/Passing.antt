-- Several calendars, gone through one after another: a moment that each of them may move on, and one that each may draw back.
use Rattle.std.proofs.Common.{◌≡◌, ℕ, List, [], ◌∷◌, sym, subst, inl, inr, arith}
use Rattle.std.specs.Prelude.{ℤ, pos, ◌+ℤ◌, ◌≤ℤ◌, All}
use Rattle.std.proofs.lemmas.Int.{ints}
use Rattle.std.proofs.lemmas.List.Elements.{All-nil, All-cons, All-head, All-tail, All-weaker}
use Rattle.freebusy.specs.declared.busy.Run.{Run}
use Rattle.slot_finder.specs.FreeTimes.{AreInOrder}
use Rattle.slot_finder.specs.Fits.{IsOutside, AreOutside, AreAllOutside, IsFirstFit, IsMovedOn, IsOpenUntil, AreOpenUntil}

-- The calendars that are left where those passed have moved a moment on.
pub record IsPassing (calendars rest : List (List Run)) (seconds : ℕ) (at found : ℤ) : Type 0 where
  pub later : at ≤ℤ found
  pub first : (other : ℤ) → at ≤ℤ other → AreAllOutside other (other +ℤ pos seconds) calendars → found ≤ℤ other
  pub order : All AreInOrder rest
  pub part : (low high : ℤ) → AreAllOutside low high calendars → AreAllOutside low high rest
  pub whole : found ≡ at → AreAllOutside at (at +ℤ pos seconds) rest → AreAllOutside at (at +ℤ pos seconds) calendars

pub passing_first : (calendars : List (List Run)) (seconds : ℕ) (at : ℤ) → All AreInOrder calendars → IsPassing calendars calendars seconds at at
passing_first calendars seconds at order = record {
  later = omega (arith, ints);
  first = λ other from outside. from;
  order = order;
  part = λ low high outside. outside;
  whole = λ same outside. outside;
}

pub passing_next : (calendars rest behind : List (List Run)) (runs : List Run) (seconds : ℕ) (at found next : ℤ) → rest ≡ runs ∷ behind → IsPassing calendars rest seconds at found
    → IsFirstFit runs seconds found next → IsPassing calendars behind seconds at next
passing_next calendars rest behind runs seconds at found next is passing fit =
    let so_far = passing.later in
    let further = fit.later in
    record {
      later = omega (arith, ints, so_far, further);
      first = λ other from outside.
          let left : AreAllOutside other (other +ℤ pos seconds) (runs ∷ behind) = subst (AreAllOutside other (other +ℤ pos seconds)) is (passing.part other (other +ℤ pos seconds) outside) in
          fit.first other (passing.first other from outside) (All-head (AreOutside other (other +ℤ pos seconds)) runs behind left);
      order = All-tail AreInOrder runs behind (subst (All AreInOrder) is passing.order);
      part = λ low high outside. All-tail (AreOutside low high) runs behind (subst (AreAllOutside low high) is (passing.part low high outside));
      whole = λ same outside.
          let stays : found ≡ at = omega (arith, ints, so_far, further, same) in
          let here : AreOutside at (at +ℤ pos seconds) runs = subst (λ (t : ℤ). AreOutside t (t +ℤ pos seconds) runs) same fit.outside in
          passing.whole stays (subst (AreAllOutside at (at +ℤ pos seconds)) (sym is) (All-cons (AreOutside at (at +ℤ pos seconds)) runs behind here outside));
    }

pub passing_end : (calendars rest : List (List Run)) (seconds : ℕ) (at found : ℤ) → rest ≡ [] → IsPassing calendars rest seconds at found → IsMovedOn calendars seconds at found
passing_end calendars rest seconds at found none passing = record {
  later = passing.later;
  first = passing.first;
  still = λ same. passing.whole same (subst (AreAllOutside at (at +ℤ pos seconds)) (sym none) (All-nil (AreOutside at (at +ℤ pos seconds))));
}

-- The calendars that are left where those passed have drawn a limit back.
pub record IsDrawnBack (calendars rest : List (List Run)) (at limit found : ℤ) : Type 0 where
  pub bound : found ≤ℤ limit
  pub last : (other : ℤ) → other ≤ℤ limit → AreAllOutside at other calendars → other ≤ℤ found
  pub order : All AreInOrder rest
  pub part : (low high : ℤ) → AreAllOutside low high calendars → AreAllOutside low high rest
  pub whole : (high : ℤ) → high ≤ℤ found → AreAllOutside at high rest → AreAllOutside at high calendars

pub drawn_first : (calendars : List (List Run)) (at limit : ℤ) → All AreInOrder calendars → IsDrawnBack calendars calendars at limit limit
drawn_first calendars at limit order = record {
  bound = omega (arith, ints);
  last = λ other below outside. below;
  order = order;
  part = λ low high outside. outside;
  whole = λ high below outside. outside;
}

-- what lies outside some seconds lies outside the first of them
nearer : (at low high : ℤ) → low ≤ℤ high → (run : Run) → IsOutside at high run → IsOutside at low run
nearer at low high less run (inl over) = inl over
nearer at low high less run (inr behind) = inr (omega (arith, ints, less, behind))

pub drawn_next : (calendars rest behind : List (List Run)) (runs : List Run) (at limit found next : ℤ) → rest ≡ runs ∷ behind → IsDrawnBack calendars rest at limit found
    → IsOpenUntil runs at found next → IsDrawnBack calendars behind at limit next
drawn_next calendars rest behind runs at limit found next is drawn until =
    let so_far = drawn.bound in
    let nearer_still = until.bound in
    record {
      bound = omega (arith, ints, so_far, nearer_still);
      last = λ other below outside.
          let left : AreAllOutside at other (runs ∷ behind) = subst (AreAllOutside at other) is (drawn.part at other outside) in
          until.last other (drawn.last other below outside) (All-head (AreOutside at other) runs behind left);
      order = All-tail AreInOrder runs behind (subst (All AreInOrder) is drawn.order);
      part = λ low high outside. All-tail (AreOutside low high) runs behind (subst (AreAllOutside low high) is (drawn.part low high outside));
      whole = λ high below outside.
          let here : AreOutside at high runs = All-weaker (IsOutside at next) (IsOutside at high) (nearer at high next below) runs until.outside in
          drawn.whole high (omega (arith, ints, nearer_still, below)) (subst (AreAllOutside at high) (sym is) (All-cons (AreOutside at high) runs behind here outside));
    }

pub drawn_end : (calendars rest : List (List Run)) (at limit found : ℤ) → rest ≡ [] → IsDrawnBack calendars rest at limit found → AreOpenUntil calendars at limit found
drawn_end calendars rest at limit found none drawn = record {
  bound = drawn.bound;
  outside = drawn.whole found (omega (arith, ints)) (subst (AreAllOutside at found) (sym none) (All-nil (AreOutside at found)));
  last = drawn.last;
}
