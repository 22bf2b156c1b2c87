-- The free times that begin from a moment on, and those that were found before it.
use Rattle.std.proofs.Common.{◌≡◌, ℕ, zero, suc, ◌+◌, ◌<◌, Bool, true, false, cond, ◌&&◌, List, [], ◌∷◌, ◌++◌, map, length, take, refl, sym, ap, ◌∙◌, ◌⊎◌, inl, inr, arith, append_assoc, length-append}
use Rattle.std.specs.Prelude.{ℤ, pos, ◌+ℤ◌, ◌-ℤ◌, ◌≤ℤ◌, ◌<ℤ◌, filter, All}
use Rattle.std.proofs.lemmas.Int.{ints, by_lt_z}
use Rattle.std.proofs.lemmas.Bool.{cases_Bool, cond-true, cond-false, and_from, and_left, and_right}
use Rattle.std.proofs.lemmas.List.{append-nil, take_all, take_at}
use Rattle.cal_model.specs.declared.row.Range.{Range}
use Rattle.freebusy.specs.declared.busy.Run.{Run}
use Rattle.slot_finder.specs.FreeTimes.{AreInOrder, IsSlot, IsEarliest, begins, free_of_runs, free_times, has_seconds, rest_from, seconds_from, stretch}
use Rattle.slot_finder.specs.Fits.{AreAllOutside, AreOpenUntil}
use Rattle.slot_finder.proofs.Comparisons.{le_is}
use Rattle.slot_finder.proofs.FreeSeconds.{free_of_all, outside_where_free}
use Rattle.slot_finder.proofs.Searching.{seconds_between, seconds-none, seconds-is}
use Rattle.slot_finder.proofs.Stretches.{IsStretchEnd, begins_at_earliest, begins_not, slot_of_stretch, stretch_is, time_between}

-- the free times that begin at some of the seconds
abbrev pub picked : (ℤ → Bool) → Range → ℕ → List ℤ → List Range
picked free range seconds ts = filter (has_seconds seconds) (map (stretch free range) (filter (begins free range) ts))

-- those that begin from a moment on
abbrev pub times_from : (ℤ → Bool) → Range → ℕ → ℤ → List Range
times_from free range seconds from = picked free range seconds (seconds_from from (seconds_between from range.end.0))

-- One second.

by_tests : (long : Range → Bool) (f : ℤ → Range) (t : ℤ) (ts : List ℤ) (begin is : Bool) → long (f t) ≡ is
    → filter long (map f (cond begin (t ∷ ts) ts)) ≡ cond (begin && is) (f t ∷ filter long (map f ts)) (filter long (map f ts))
by_tests long f t ts false is same = refl
by_tests long f t ts true true same = cond-true (long (f t)) (f t ∷ filter long (map f ts)) (filter long (map f ts)) same
by_tests long f t ts true false same = cond-false (long (f t)) (f t ∷ filter long (map f ts)) (filter long (map f ts)) same

pub picked_more : (free : ℤ → Bool) (range : Range) (seconds : ℕ) (t : ℤ) (ts : List ℤ)
    → picked free range seconds (t ∷ ts) ≡ cond (begins free range t && has_seconds seconds (stretch free range t)) (stretch free range t ∷ picked free range seconds ts) (picked free range seconds ts)
picked_more free range seconds t ts =
    by_tests (has_seconds seconds) (stretch free range) t (filter (begins free range) ts) (begins free range t) (has_seconds seconds (stretch free range t)) refl

picks_none : (free : ℤ → Bool) (range : Range) (seconds : ℕ) (t : ℤ) (ts : List ℤ) → (begins free range t && has_seconds seconds (stretch free range t)) ≡ false
    → picked free range seconds (t ∷ ts) ≡ picked free range seconds ts
picks_none free range seconds t ts neither =
    picked_more free range seconds t ts
    ∙ cond-false (begins free range t && has_seconds seconds (stretch free range t)) (stretch free range t ∷ picked free range seconds ts) (picked free range seconds ts) neither

picks_one : (free : ℤ → Bool) (range : Range) (seconds : ℕ) (t : ℤ) (ts : List ℤ) → (begins free range t && has_seconds seconds (stretch free range t)) ≡ true
    → picked free range seconds (t ∷ ts) ≡ stretch free range t ∷ picked free range seconds ts
picks_one free range seconds t ts both =
    picked_more free range seconds t ts
    ∙ cond-true (begins free range t && has_seconds seconds (stretch free range t)) (stretch free range t ∷ picked free range seconds ts) (picked free range seconds ts) both

-- Several seconds, none of which begins a free time.

passed_over : (free : ℤ → Bool) (range : Range) (seconds : ℕ) (n k m : ℕ) (from to : ℤ) → k ≡ n + m → to ≡ from +ℤ pos n
    → ((t : ℤ) → from ≤ℤ t → t <ℤ to → (begins free range t && has_seconds seconds (stretch free range t)) ≡ false)
    → picked free range seconds (seconds_from from k) ≡ picked free range seconds (seconds_from to m)
passed_over free range seconds zero k m from to long far none =
    let same : k ≡ m = omega (arith, long) in
    let here : from ≡ to = omega (arith, ints, far) in
    ap (λ (j : ℕ). picked free range seconds (seconds_from from j)) same ∙ ap (λ (t : ℤ). picked free range seconds (seconds_from t m)) here
passed_over free range seconds (suc n) zero m from to long far none = absurd (omega (arith, long))
passed_over free range seconds (suc n) (suc k) m from to long far none =
    picks_none free range seconds from (seconds_from (from +ℤ pos 1) k) (none from (omega (arith, ints)) (omega (arith, ints, far)))
    ∙ passed_over free range seconds n k m (from +ℤ pos 1) to (omega (arith, long)) (omega (arith, ints, far)) (λ t after before. none t (omega (arith, ints, after)) before)

pub times_later : (free : ℤ → Bool) (range : Range) (seconds : ℕ) (from to : ℤ) → from ≤ℤ to → to ≤ℤ range.end.0
    → ((t : ℤ) → from ≤ℤ t → t <ℤ to → (begins free range t && has_seconds seconds (stretch free range t)) ≡ false)
    → times_from free range seconds from ≡ times_from free range seconds to
times_later free range seconds from to later within none =
    let first = seconds-is from to later in
    let rest = seconds-is to range.end.0 within in
    let whole = seconds-is from range.end.0 (omega (arith, ints, later, within)) in
    passed_over free range seconds (seconds_between from to) (seconds_between from range.end.0) (seconds_between to range.end.0) from to
    (omega (arith, ints, first, rest, whole)) (omega (arith, ints, first)) none

-- a stretch that begins before the first slot is too short
short_before : (free : ℤ → Bool) (range : Range) (seconds : ℕ) (from t : ℤ) → 0 < seconds → from ≤ℤ t → (IsSlot free (rest_from range from) seconds t → ⊥)
    → (begins free range t && has_seconds seconds (stretch free range t)) ≡ false
short_before free range seconds from t some later no_slot = elim (cases_Bool (has_seconds seconds (stretch free range t))) [
  | inl long ↦ absurd (no_slot (slot_of_stretch free range seconds from t some later long))
  | inr short ↦ and_right (begins free range t) (has_seconds seconds (stretch free range t)) short
]

-- where there is no slot, there is no free time
times_none : (free : ℤ → Bool) (range : Range) (seconds : ℕ) (from : ℤ) → 0 < seconds → ((t : ℤ) → IsSlot free (rest_from range from) seconds t → ⊥) → times_from free range seconds from ≡ []
times_none free range seconds from some none = by_lt_z from range.end.0
    (λ less.
    times_later free range seconds from range.end.0 (omega (arith, ints, less)) (omega (arith, ints)) (λ t after before. short_before free range seconds from t some after (none t))
    ∙ ap (λ (n : ℕ). picked free range seconds (seconds_from range.end.0 n)) (seconds-none range.end.0 range.end.0 (omega (arith, ints))))
    (λ past. ap (λ (n : ℕ). picked free range seconds (seconds_from from n)) (seconds-none from range.end.0 past))

suc_of : (n : ℕ) → 0 < n → (k : ℕ) × (n ≡ suc k)
suc_of zero more = absurd (omega (arith, more))
suc_of (suc k) more = (k, refl)

-- The first slot from a moment on begins the first free time, up to the end of its stretch.
times_first : (free : ℤ → Bool) (range : Range) (seconds : ℕ) (from at end : ℤ) → 0 < seconds → range.start.0 ≤ℤ from → (from ≡ range.start.0) ⊎ ((range.end.0 ≤ℤ from) ⊎ (free from ≡ false))
    → IsEarliest free (rest_from range from) seconds at → IsStretchEnd free at range.end.0 end → (at +ℤ pos seconds) ≤ℤ end
    → times_from free range seconds from ≡ time_between at end ∷ times_from free range seconds end
times_first free range seconds from at end some start edge earliest ends far =
    let since : from ≤ℤ at = earliest.slot.from in
    let within : end ≤ℤ range.end.0 = ends.bound in
    let is : stretch free range at ≡ time_between at end = stretch_is free range at end (omega (arith, ints, some, far)) ends in
    let long : has_seconds seconds (stretch free range at) ≡ true = ap (has_seconds seconds) is ∙ le_is (at +ℤ pos seconds) end far in
    let begin : begins free range at ≡ true = begins_at_earliest free range seconds from at some edge earliest in
    let left = seconds-is at range.end.0 (omega (arith, ints, some, far, within)) in
    let size = suc_of (seconds_between at range.end.0) (omega (arith, ints, left, some, far, within)) in
    let first = seconds-is (at +ℤ pos 1) end (omega (arith, ints, some, far)) in
    let rest = seconds-is end range.end.0 within in
    times_later free range seconds from at since (omega (arith, ints, some, far, within))
    (λ t after before. short_before free range seconds from t some after (λ slot. let sooner = earliest.first t slot in absurd (omega (arith, ints, sooner, before))))
    ∙ ap (λ (n : ℕ). picked free range seconds (seconds_from at n)) size.1
    ∙ picks_one free range seconds at (seconds_from (at +ℤ pos 1) size.0) (and_from (begins free range at) (has_seconds seconds (stretch free range at)) begin long)
    ∙ ap (λ (time : Range). time ∷ picked free range seconds (seconds_from (at +ℤ pos 1) size.0)) is
    ∙ ap (λ (times : List Range). time_between at end ∷ times)
    (passed_over free range seconds (seconds_between (at +ℤ pos 1) end) size.0 (seconds_between end range.end.0) (at +ℤ pos 1) end
    (omega (arith, ints, left, size.1, first, rest)) (omega (arith, ints, first))
    (λ t after before. and_left (begins free range t) (has_seconds seconds (stretch free range t))
    (begins_not free range t (omega (arith, ints, start, since, after)) (ends.each (t -ℤ pos 1) (omega (arith, ints, after)) (omega (arith, ints, before))))))

-- The end of a stretch, as it is found among the runs.

stretch_ends : (calendars : List (List Run)) (at limit end : ℤ) → All AreInOrder calendars → at ≤ℤ end → AreOpenUntil calendars at limit end → IsStretchEnd (free_of_runs calendars) at limit end
stretch_ends calendars at limit end order from until =
    let below = until.bound in
    record {
      bound = below;
      each = λ t after before. free_of_all calendars at end t after before until.outside;
      edge = by_lt_z end limit (λ less. at_end less (cases_Bool (free_of_runs calendars end))) (λ more. inl (omega (arith, ints, below, more)));
    }
  where
    further : free_of_runs calendars end ≡ true → AreAllOutside at (end +ℤ pos 1) calendars
    further is = outside_where_free calendars at (end +ℤ pos 1) (omega (arith, ints, from)) order
        (λ t after before. by_lt_z t end
        (λ sooner. free_of_all calendars at end t after sooner until.outside)
        (λ later. let same : t ≡ end = omega (arith, ints, before, later) in ap (free_of_runs calendars) same ∙ is))

    at_end : end <ℤ limit → (free_of_runs calendars end ≡ true) ⊎ (free_of_runs calendars end ≡ false) → (end ≡ limit) ⊎ (free_of_runs calendars end ≡ false)
    at_end less (inl is) = let over = until.last (end +ℤ pos 1) (omega (arith, ints, less)) (further is) in absurd (omega (arith, ints, over))
    at_end less (inr busy) = inr busy

-- What was found.

pub record AreFound (free : ℤ → Bool) (range : Range) (seconds most : ℕ) (found : List Range) (from : ℤ) (left : ℕ) : Type 0 where
  pub start : range.start.0 ≤ℤ from
  pub edge : (from ≡ range.start.0) ⊎ ((range.end.0 ≤ℤ from) ⊎ (free from ≡ false))
  pub counted : length found + left ≡ most
  pub times : free_times free range seconds ≡ found ++ times_from free range seconds from

pub found_first : (free : ℤ → Bool) (range : Range) (seconds most : ℕ) (found : List Range) → found ≡ [] → AreFound free range seconds most found range.start.0 most
found_first free range seconds most found none = record {
  start = omega (arith, ints);
  edge = inl refl;
  counted = let empty = ap length none in omega (arith, empty);
  times = ap (λ (times : List Range). times ++ times_from free range seconds range.start.0) (sym none);
}

pub found_next : (calendars : List (List Run)) (range : Range) (seconds most : ℕ) (found more : List Range) (from at end : ℤ) (left fewer : ℕ) → All AreInOrder calendars → 0 < seconds
    → AreFound (free_of_runs calendars) range seconds most found from left → IsEarliest (free_of_runs calendars) (rest_from range from) seconds at → AreOpenUntil calendars at range.end.0 end
    → more ≡ found ++ time_between at end ∷ [] → left ≡ fewer + 1 → AreFound (free_of_runs calendars) range seconds most more end fewer
found_next calendars range seconds most found more from at end left fewer order some are earliest until is one =
    let far : (at +ℤ pos seconds) ≤ℤ end = until.last (at +ℤ pos seconds) earliest.slot.to (outside_where_free calendars at (at +ℤ pos seconds) (omega (arith, ints, some)) order earliest.slot.each) in
    let since : from ≤ℤ at = earliest.slot.from in
    let start = are.start in
    let before = are.counted in
    let ends = stretch_ends calendars at range.end.0 end order (omega (arith, ints, some, far)) until in
    let longer = ap length is ∙ length-append found (time_between at end ∷ []) in
    record {
      start = omega (arith, ints, start, since, some, far);
      edge = last_edge ends.edge;
      counted = omega (arith, longer, before, one);
      times = are.times
          ∙ ap (λ (times : List Range). found ++ times) (times_first (free_of_runs calendars) range seconds from at end some start are.edge earliest ends far)
          ∙ sym (append_assoc found (time_between at end ∷ []) (times_from (free_of_runs calendars) range seconds end))
          ∙ ap (λ (times : List Range). times ++ times_from (free_of_runs calendars) range seconds end) (sym is);
    }
  where
    last_edge : (end ≡ range.end.0) ⊎ (free_of_runs calendars end ≡ false) → (end ≡ range.start.0) ⊎ ((range.end.0 ≤ℤ end) ⊎ (free_of_runs calendars end ≡ false))
    last_edge (inl last) = inr (inl (omega (arith, ints, last)))
    last_edge (inr busy) = inr (inr busy)

-- as many as were asked for
pub found_most : (free : ℤ → Bool) (range : Range) (seconds most : ℕ) (found : List Range) (from : ℤ) (left : ℕ) → AreFound free range seconds most found from left → left ≡ 0
    → found ≡ take most (free_times free range seconds)
found_most free range seconds most found from left are none =
    let counted = are.counted in
    sym (ap (take most) are.times ∙ take_at found (times_from free range seconds from) most (omega (arith, counted, none)))

-- all that there are
pub found_all : (free : ℤ → Bool) (range : Range) (seconds most : ℕ) (found : List Range) (from : ℤ) (left : ℕ) → 0 < seconds → AreFound free range seconds most found from left
    → ((t : ℤ) → IsSlot free (rest_from range from) seconds t → ⊥) → found ≡ take most (free_times free range seconds)
found_all free range seconds most found from left some are none =
    let counted = are.counted in
    sym (ap (take most) (are.times ∙ ap (λ (times : List Range). found ++ times) (times_none free range seconds from some none) ∙ append-nil found)
    ∙ take_all most found (omega (arith, counted)))
