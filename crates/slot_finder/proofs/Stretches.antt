-- How far free seconds go, and where a stretch of them begins.
use Rattle.std.proofs.Common.{◌≡◌, ℕ, zero, suc, ◌+◌, ◌<◌, ◌≤◌, Bool, true, false, not, ◌||◌, refl, sym, ap, ◌∙◌, ◌⊎◌, inl, inr, ⊎_elim, arith}
use Rattle.std.specs.Prelude.{ℤ, pos, ◌+ℤ◌, ◌-ℤ◌, ◌≤ℤ◌, ◌<ℤ◌}
use Rattle.std.proofs.lemmas.Int.{ints, by_lt_z}
use Rattle.std.proofs.lemmas.Bool.{false≢true, cases_Bool, cond-true, cond-false, and_from, and_right, or_left, or_right, or_from, not_from_true, not_from_false}
use Rattle.cal_model.specs.declared.row.Range.{Range}
use Rattle.cal_model.specs.Words.Integers.{same_int}
use Rattle.cal_model.proofs.Words.IntegerLemmas.{same_int-self, same_int-true}
use Rattle.slot_finder.specs.FreeTimes.{IsSlot, IsEarliest, begins, free_count, rest_from, stretch, has_seconds}
use Rattle.slot_finder.proofs.Comparisons.{le_of}
use Rattle.slot_finder.proofs.Searching.{seconds_between, seconds-none, seconds-is}

-- the time from one moment up to another
abbrev pub time_between : ℤ → ℤ → Range
time_between start end = record { start = record { 0 = start }; end = record { 0 = end } }

-- Counts.

count_more : (free : ℤ → Bool) (t : ℤ) (n : ℕ) → free t ≡ true → free_count free t (suc n) ≡ suc (free_count free (t +ℤ pos 1) n)
count_more free t n is = cond-true (free t) (suc (free_count free (t +ℤ pos 1) n)) 0 is

count_none : (free : ℤ → Bool) (t : ℤ) (n : ℕ) → free t ≡ false → free_count free t n ≡ 0
count_none free t zero is = refl
count_none free t (suc n) is = cond-false (free t) (suc (free_count free (t +ℤ pos 1) n)) 0 is

pub count_bound : (free : ℤ → Bool) (t : ℤ) (n : ℕ) → free_count free t n ≤ n
count_bound free t zero = omega arith
count_bound free t (suc n) = elim (cases_Bool (free t)) [
  | inl is ↦ (let more = count_more free t n is in let below = count_bound free (t +ℤ pos 1) n in omega (arith, more, below))
  | inr is ↦ (let none = count_none free t (suc n) is in omega (arith, none))
]

-- the seconds that are counted are free
counted_free : (free : ℤ → Bool) (t : ℤ) (n : ℕ) (u : ℤ) → t ≤ℤ u → u <ℤ (t +ℤ pos (free_count free t n)) → free u ≡ true
counted_free free t zero u from before = absurd (omega (arith, ints, from, before))
counted_free free t (suc n) u from before = elim (cases_Bool (free t)) [
  | inl is ↦ (let more = count_more free t n is in
      by_lt_z t u
      (λ later. counted_free free (t +ℤ pos 1) n u (omega (arith, ints, later)) (omega (arith, ints, more, before)))
      (λ here. let same : u ≡ t = omega (arith, ints, from, here) in ap free same ∙ is))
  | inr is ↦ (let none = count_none free t (suc n) is in absurd (omega (arith, ints, none, from, before)))
]

-- so many seconds are free, and then one is not, or none is left
pub count_is : (free : ℤ → Bool) (n k m : ℕ) (t end : ℤ) → k ≡ n + m → end ≡ t +ℤ pos n → ((u : ℤ) → t ≤ℤ u → u <ℤ end → free u ≡ true) → (m ≡ 0) ⊎ (free end ≡ false)
    → free_count free t k ≡ n
count_is free zero k m t end long far each (inl none) =
    let same : k ≡ 0 = omega (arith, long, none) in ap (free_count free t) same
count_is free zero k m t end long far each (inr busy) =
    let same : t ≡ end = omega (arith, ints, far) in count_none free t k (ap free same ∙ busy)
count_is free (suc n) zero m t end long far each edge = absurd (omega (arith, long))
count_is free (suc n) (suc k) m t end long far each edge =
    count_more free t k (each t (omega (arith, ints)) (omega (arith, ints, far)))
    ∙ ap (λ (j : ℕ). suc j) (count_is free n k m (t +ℤ pos 1) end (omega (arith, long)) (omega (arith, ints, far)) (λ u from before. each u (omega (arith, ints, from)) before) edge)

-- Stretches.

-- a stretch of enough seconds has a slot at its start
pub slot_of_stretch : (free : ℤ → Bool) (range : Range) (seconds : ℕ) (from t : ℤ) → 0 < seconds → from ≤ℤ t → has_seconds seconds (stretch free range t) ≡ true → IsSlot free (rest_from range from) seconds t
slot_of_stretch free range seconds from t some later long =
    let count = free_count free t (seconds_between t range.end.0) in
    let reaches : (t +ℤ pos seconds) ≤ℤ (t +ℤ pos count) = le_of (t +ℤ pos seconds) (t +ℤ pos count) long in
    let bound : count ≤ seconds_between t range.end.0 = count_bound free t (seconds_between t range.end.0) in
    let less : t <ℤ range.end.0 = by_lt_z t range.end.0 (λ before. before)
    (λ past. let none = seconds-none t range.end.0 past in absurd (omega (arith, ints, some, reaches, bound, none))) in
    let left = seconds-is t range.end.0 (omega (arith, ints, less)) in
    record {
      from = later;
      to = omega (arith, ints, reaches, bound, left);
      each = λ u after before. counted_free free t (seconds_between t range.end.0) u after (omega (arith, ints, reaches, before));
    }

-- where the free seconds behind a moment end
pub record IsStretchEnd (free : ℤ → Bool) (start limit end : ℤ) : Type 0 where
  pub bound : end ≤ℤ limit
  pub each : (t : ℤ) → start ≤ℤ t → t <ℤ end → free t ≡ true
  pub edge : (end ≡ limit) ⊎ (free end ≡ false)

pub stretch_is : (free : ℤ → Bool) (range : Range) (start end : ℤ) → start ≤ℤ end → IsStretchEnd free start range.end.0 end → stretch free range start ≡ time_between start end
stretch_is free range start end from is =
    let bound = is.bound in
    let first = seconds-is start end from in
    let rest = seconds-is end range.end.0 bound in
    let whole = seconds-is start range.end.0 (omega (arith, ints, from, bound)) in
    let count : free_count free start (seconds_between start range.end.0) ≡ seconds_between start end =
    count_is free (seconds_between start end) (seconds_between start range.end.0) (seconds_between end range.end.0) start end
    (omega (arith, ints, first, rest, whole)) (omega (arith, ints, first)) is.each
    (⊎_elim (λ (last : end ≡ range.end.0). inl (seconds-none end range.end.0 (omega (arith, ints, last)))) (λ (busy : free end ≡ false). inr busy) is.edge) in
    let there : start +ℤ pos (free_count free start (seconds_between start range.end.0)) ≡ end = omega (arith, ints, count, first) in
    ap (time_between start) there

-- Where one begins.

-- a free second behind another one begins none
pub begins_not : (free : ℤ → Bool) (range : Range) (t : ℤ) → range.start.0 <ℤ t → free (t -ℤ pos 1) ≡ true → begins free range t ≡ false
begins_not free range t later is =
    and_right (free t) (same_int t range.start.0 || not (free (t -ℤ pos 1)))
    (or_from (same_int t range.start.0) (not (free (t -ℤ pos 1))) (apart (same_int t range.start.0) refl) (not_from_true (free (t -ℤ pos 1)) is))
  where
    apart : (b : Bool) → same_int t range.start.0 ≡ b → same_int t range.start.0 ≡ false
    apart true same = absurd (let equal = same_int-true t range.start.0 same in omega (arith, ints, later, equal))
    apart false other = other

begins_first : (free : ℤ → Bool) (range : Range) (t : ℤ) → free t ≡ true → t ≡ range.start.0 → begins free range t ≡ true
begins_first free range t is first =
    and_from (free t) (same_int t range.start.0 || not (free (t -ℤ pos 1))) is
    (or_left (same_int t range.start.0) (not (free (t -ℤ pos 1))) (ap (same_int t) (sym first) ∙ same_int-self t))

begins_behind : (free : ℤ → Bool) (range : Range) (t : ℤ) → free t ≡ true → free (t -ℤ pos 1) ≡ false → begins free range t ≡ true
begins_behind free range t is busy =
    and_from (free t) (same_int t range.start.0 || not (free (t -ℤ pos 1))) is
    (or_right (same_int t range.start.0) (not (free (t -ℤ pos 1))) (not_from_false (free (t -ℤ pos 1)) busy))

-- a slot one second sooner
sooner_slot : (free : ℤ → Bool) (range : Range) (seconds : ℕ) (t : ℤ) → IsSlot free range seconds t → range.start.0 ≤ℤ (t -ℤ pos 1) → free (t -ℤ pos 1) ≡ true → IsSlot free range seconds (t -ℤ pos 1)
sooner_slot free range seconds t slot from is =
    let to = slot.to in
    record {
      from = from;
      to = omega (arith, ints, to);
      each = λ u after before. by_lt_z u t
          (λ sooner. let same : u ≡ t -ℤ pos 1 = omega (arith, ints, after, sooner) in ap free same ∙ is)
          (λ later. slot.each u later (omega (arith, ints, before)));
    }

-- At the first slot from a moment on a stretch begins, where that moment is the first of the range, or is not free, or is past the range.
pub begins_at_earliest : (free : ℤ → Bool) (range : Range) (seconds : ℕ) (from at : ℤ) → 0 < seconds → (from ≡ range.start.0) ⊎ ((range.end.0 ≤ℤ from) ⊎ (free from ≡ false))
    → IsEarliest free (rest_from range from) seconds at → begins free range at ≡ true
begins_at_earliest free range seconds from at some edge earliest =
    by_lt_z from at (λ later. behind (cases_Bool (free (at -ℤ pos 1))) later) (λ not_later. let same : at ≡ from = omega (arith, ints, since, not_later) in here same edge)
  where
    since : from ≤ℤ at
    since = earliest.slot.from

    is : free at ≡ true
    is = earliest.slot.each at (omega (arith, ints)) (omega (arith, ints, some))

    behind : (free (at -ℤ pos 1) ≡ true) ⊎ (free (at -ℤ pos 1) ≡ false) → from <ℤ at → begins free range at ≡ true
    behind (inl open_before) later =
        let sooner = earliest.first (at -ℤ pos 1) (sooner_slot free (rest_from range from) seconds at earliest.slot (omega (arith, ints, later)) open_before) in
        absurd (omega (arith, ints, sooner))
    behind (inr busy) later = begins_behind free range at is busy

    here : at ≡ from → (from ≡ range.start.0) ⊎ ((range.end.0 ≤ℤ from) ⊎ (free from ≡ false)) → begins free range at ≡ true
    here same (inl first) = begins_first free range at is (same ∙ first)
    here same (inr (inl past)) = let to = earliest.slot.to in absurd (omega (arith, ints, some, to, same, past))
    here same (inr (inr busy)) = absurd (false≢true (sym busy ∙ ap free (sym same) ∙ is))
