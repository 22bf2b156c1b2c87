-- A moment that moves on through a range and passes no slot.
use Rattle.std.proofs.Common.{◌≡◌, ℕ, ◌<◌, Bool, true, false, cond, List, refl, ap, ◌∙◌, arith}
use Rattle.std.specs.Prelude.{ℤ, pos, negsuc, ◌+ℤ◌, ◌-ℤ◌, ◌≤ℤ◌, ◌<ℤ◌, int_le, int_lt, nat_abs, All}
use Rattle.std.proofs.lemmas.Int.{ints, by_lt_z}
use Rattle.std.proofs.lemmas.Bool.{cond-true, cond-false}
use Rattle.cal_model.specs.declared.row.Range.{Range}
use Rattle.freebusy.specs.declared.busy.Run.{Run}
use Rattle.slot_finder.specs.FreeTimes.{AreInOrder, IsSlot, IsEarliest, free_of_runs}
use Rattle.slot_finder.specs.Fits.{AreAllOutside, IsMovedOn}
use Rattle.slot_finder.proofs.Comparisons.{le_of, above_of, lt_is, not_lt_is}
use Rattle.slot_finder.proofs.FreeSeconds.{free_of_all, outside_where_free}

-- How many seconds there are from one moment up to another.

abbrev pub seconds_between : ℤ → ℤ → ℕ
seconds_between a b = cond (int_lt a b) (nat_abs (b -ℤ a)) 0

pos-nat_abs : (z : ℤ) → pos 0 ≤ℤ z → pos (nat_abs z) ≡ z
pos-nat_abs (pos n) low = refl
pos-nat_abs (negsuc n) low = absurd (omega (arith, ints))

pub seconds-none : (a b : ℤ) → b ≤ℤ a → seconds_between a b ≡ 0
seconds-none a b low = cond-false (int_lt a b) (nat_abs (b -ℤ a)) 0 (not_lt_is a b low)

seconds-some : (a b : ℤ) → a <ℤ b → pos (seconds_between a b) ≡ b -ℤ a
seconds-some a b less =
    ap (λ (n : ℕ). pos n) (cond-true (int_lt a b) (nat_abs (b -ℤ a)) 0 (lt_is a b less))
    ∙ pos-nat_abs (b -ℤ a) (omega (arith, ints))

pub seconds-is : (a b : ℤ) → a ≤ℤ b → pos (seconds_between a b) ≡ b -ℤ a
seconds-is a b low = by_lt_z a b
    (λ less. seconds-some a b less)
    (λ more. ap (λ (n : ℕ). pos n) (seconds-none a b more) ∙ omega (arith, ints))

-- The search.

pub record IsSearched (free : ℤ → Bool) (range : Range) (seconds : ℕ) (at : ℤ) : Type 0 where
  pub from : range.start.0 ≤ℤ at
  pub first : (other : ℤ) → IsSlot free range seconds other → at ≤ℤ other

pub search_first : (free : ℤ → Bool) (range : Range) (seconds : ℕ) → IsSearched free range seconds range.start.0
search_first free range seconds = record {
  from = omega (arith, ints);
  first = λ other slot. slot.from;
}

slot_outside : (calendars : List (List Run)) (range : Range) (seconds : ℕ) (at : ℤ) → All AreInOrder calendars → 0 < seconds → IsSlot (free_of_runs calendars) range seconds at
    → AreAllOutside at (at +ℤ pos seconds) calendars
slot_outside calendars range seconds at order some slot = outside_where_free calendars at (at +ℤ pos seconds) (omega (arith, ints, some)) order slot.each

pub search_next : (calendars : List (List Run)) (range : Range) (seconds : ℕ) (at next : ℤ) → All AreInOrder calendars → 0 < seconds → IsSearched (free_of_runs calendars) range seconds at
    → IsMovedOn calendars seconds at next → IsSearched (free_of_runs calendars) range seconds next
search_next calendars range seconds at next order some searched moved =
    let from = searched.from in
    let later = moved.later in
    record {
      from = omega (arith, ints, from, later);
      first = λ other slot. moved.first other (searched.first other slot) (slot_outside calendars range seconds other order some slot);
    }

pub search_found : (calendars : List (List Run)) (range : Range) (seconds : ℕ) (at next : ℤ) → IsSearched (free_of_runs calendars) range seconds at
    → int_le (at +ℤ pos seconds) range.end.0 ≡ true → IsMovedOn calendars seconds at next → next ≡ at → IsEarliest (free_of_runs calendars) range seconds at
search_found calendars range seconds at next searched room moved same = record {
  slot = record {
    from = searched.from;
    to = le_of (at +ℤ pos seconds) range.end.0 room;
    each = λ t from before. free_of_all calendars at (at +ℤ pos seconds) t from before (moved.still same);
  };
  first = searched.first;
}

pub search_none : (free : ℤ → Bool) (range : Range) (seconds : ℕ) (at : ℤ) → IsSearched free range seconds at → int_le (at +ℤ pos seconds) range.end.0 ≡ false
    → (other : ℤ) → IsSlot free range seconds other → ⊥
search_none free range seconds at searched past other slot =
    let end : range.end.0 <ℤ (at +ℤ pos seconds) = above_of (at +ℤ pos seconds) range.end.0 past in
    let later = searched.first other slot in
    let within = slot.to in
    omega (arith, ints, end, later, within)

-- a step on leaves fewer seconds
pub fewer_seconds : (at next end : ℤ) (seconds : ℕ) → 0 < seconds → at ≤ℤ next → (next ≡ at → ⊥) → int_le (at +ℤ pos seconds) end ≡ true → seconds_between next end < seconds_between at end
fewer_seconds at next end seconds some later moved room =
    let within : (at +ℤ pos seconds) ≤ℤ end = le_of (at +ℤ pos seconds) end room in
    let further : at <ℤ next = by_lt_z at next (λ less. less) (λ more. absurd (moved (omega (arith, ints, later, more)))) in
    let before = seconds-is at end (omega (arith, ints, within, some)) in
    by_lt_z next end
    (λ less. let left = seconds-is next end (omega (arith, ints, less)) in omega (arith, ints, further, before, left))
    (λ more. let left = seconds-none next end more in omega (arith, ints, within, some, before, left))
