-- What a rule's set has in a range, one kept moment after the other.
use Rattle.std.proofs.Common.{◌≡◌, ℕ, zero, suc, ◌+◌, ◌-◌, ◌*◌, ◌<◌, ◌≤◌, List, [], ◌∷◌, ◌++◌, take, append_assoc, refl, ap, ◌∙◌, arith, Bool, true, false, nat_lt, inl, inr}
use Rattle.std.specs.Prelude.{All, filter, nat_le, if◌then◌else◌, ◌&&◌, Option, Some, None, is_some}
use Rattle.std.proofs.lemmas.Bool.{cases_Bool}
use Rattle.std.proofs.lemmas.List.Elements.{All-head, All-tail, All-nil, All-cons, All-filter, All-take, All-weaker}
use Rattle.cal_model.specs.declared.rule.Rule.{Rule}
use Rattle.cal_model.specs.Words.Lists.{numbers_between, counted_from}
use Rattle.cal_model.specs.Recurrence.NextPassing.{end_day}
use Rattle.cal_model.specs.Recurrence.RecurrenceSet.{Reading, first_moment, found_moments, at_places, until_passes, first_counted, later_moments, last_written}
use Rattle.cal_model.proofs.Walks.KeptLemmas.{is_found, found_from-cut}
use Rattle.cal_model.specs.Walks.KeptMoments.{found_from, counted_by, wanted, one_less, starts_by}
use Rattle.std.proofs.Common.{ℤ}
use Rattle.cal_moment.specs.Calendar.{seconds_since_1970}

none_in : {X : Type 0} (p : X → Bool) (xs : List X) → All (λ x. p x ≡ false) xs → filter p xs ≡ []
none_in p [] all = refl
none_in p (x ∷ xs) all = let here = All-head (λ x. p x ≡ false) x xs all in rw here (none_in p xs (All-tail (λ x. p x ≡ false) x xs all))

pub first_counted-left : (count : Option ℕ) (later : List ℕ) → first_counted count later ≡ counted_by (one_less count) later
first_counted-left None later = refl
first_counted-left (Some count) later = refl

module _ (rule : Rule) (start : ℕ) (reading : Reading) (low high : ℕ) where
  abbrev pub lies : ℕ → Bool
  lies m = nat_le low m && nat_lt m high

  -- a moment at or before the start is no later one
  pub wanted-early : (left : Option ℕ) (m : ℕ) (kept : List ℕ) → m ≤ start → wanted rule start reading low high left (m ∷ kept) ≡ wanted rule start reading low high left kept
  wanted-early left m kept le = let test : nat_lt start m ≡ false = grind (arith, le) in rw test refl

  -- nor is one that UNTIL bars
  pub wanted-past_until : (left : Option ℕ) (m : ℕ) (kept : List ℕ) → start < m → until_passes reading rule.until m ≡ false → wanted rule start reading low high left (m ∷ kept) ≡ wanted rule start reading low high left kept
  wanted-past_until left m kept lt bars = let test : nat_lt start m ≡ true = grind (arith, lt) in rw (test, bars) refl

  -- where COUNT allows no more, nothing is wanted
  pub wanted-none_left : (kept : List ℕ) → wanted rule start reading low high (Some 0) kept ≡ []
  wanted-none_left kept = refl

  -- else it counts, and is wanted where it lies in the range and can be written
  pub wanted-counted : (left : Option ℕ) (m : ℕ) (kept : List ℕ) → start < m → until_passes reading rule.until m ≡ true → (left ≡ Some 0 → ⊥) →
      wanted rule start reading low high left (m ∷ kept) ≡ (if nat_le m last_written then (if lies m then m ∷ wanted rule start reading low high (one_less left) kept else wanted rule start reading low high (one_less left) kept) else wanted rule start reading low high (one_less left) kept)
  wanted-counted None m kept lt by some =
      let test : nat_lt start m ≡ true = grind (arith, lt) in
      elim (cases_Bool (nat_le m last_written)) [
        | inl written ↦ elim (cases_Bool (lies m)) [ inl within ↦ rw (test, by, written, within) refl | inr without ↦ rw (test, by, written, without) refl ]
        | inr unwritten ↦ rw (test, by, unwritten) refl
      ]
  wanted-counted (Some zero) m kept lt by some = absurd (some refl)
  wanted-counted (Some (suc n)) m kept lt by some =
      let test : nat_lt start m ≡ true = grind (arith, lt) in
      let one : suc n - 1 ≡ n = omega arith in
      elim (cases_Bool (nat_le m last_written)) [
        | inl written ↦ elim (cases_Bool (lies m)) [ inl within ↦ rw (one, test, by, written, within) refl | inr without ↦ rw (one, test, by, written, without) refl ]
        | inr unwritten ↦ rw (one, test, by, unwritten) refl
      ]

  All-take' : (P : ℕ → Type 0) (n : ℕ) (xs : List ℕ) → All P xs → All P (take n xs)
  All-take' P n xs all = All-take P n xs all

  All-counted : (P : ℕ → Type 0) (left : Option ℕ) (xs : List ℕ) → All P xs → All P (counted_by left xs)
  All-counted P None xs all = all
  All-counted P (Some n) xs all = All-take' P n xs all

  -- from the end of the range on nothing is wanted
  pub wanted-high : (left : Option ℕ) (kept : List ℕ) → All (λ m. high ≤ m) kept → wanted rule start reading low high left kept ≡ []
  wanted-high left kept all =
      none_in lies (filter (λ m. nat_le m last_written) (counted_by left (filter (until_passes reading rule.until) (filter (λ m. nat_lt start m) kept))))
      (All-weaker (λ m. high ≤ m) (λ m. lies m ≡ false) (λ m le. let test : nat_lt m high ≡ false = grind (arith, le) in rw test (cases (nat_le low m)))
      (filter (λ m. nat_le m last_written) (counted_by left (filter (until_passes reading rule.until) (filter (λ m. nat_lt start m) kept))))
      (All-filter (λ m. nat_le m last_written) (λ m. high ≤ m) (counted_by left (filter (until_passes reading rule.until) (filter (λ m. nat_lt start m) kept)))
      (All-counted (λ m. high ≤ m) left (filter (until_passes reading rule.until) (filter (λ m. nat_lt start m) kept))
      (All-filter (until_passes reading rule.until) (λ m. high ≤ m) (filter (λ m. nat_lt start m) kept) (All-filter (λ m. nat_lt start m) (λ m. high ≤ m) kept all)))))
    where
      cases : (b : Bool) → (b && false) ≡ false
      cases true = refl
      cases false = refl

  -- moments at or before the start may be left out
  pub wanted-skip_early : (left : Option ℕ) (xs ys : List ℕ) → All (λ m. m ≤ start) xs → wanted rule start reading low high left (xs ++ ys) ≡ wanted rule start reading low high left ys
  wanted-skip_early left [] ys all = refl
  wanted-skip_early left (x ∷ xs) ys all =
      wanted-early left x (xs ++ ys) (All-head (λ m. m ≤ start) x xs all) ∙ wanted-skip_early left xs ys (All-tail (λ m. m ≤ start) x xs all)

  -- without COUNT, so may those before the range
  wanted-low : (m : ℕ) (kept : List ℕ) → m < low → wanted rule start reading low high None (m ∷ kept) ≡ wanted rule start reading low high None kept
  wanted-low m kept lt =
      let before : nat_le low m ≡ false = grind (arith, lt) in
      let outside : lies m ≡ false = rw before refl in
      elim (cases_Bool (nat_lt start m)) [
        | inl after ↦ elim (cases_Bool (until_passes reading rule.until m)) [
          | inl by ↦ elim (cases_Bool (nat_le m last_written)) [ inl written ↦ rw (after, by, written, outside) refl | inr unwritten ↦ rw (after, by, unwritten) refl ]
          | inr bars ↦ rw (after, bars) refl
        ]
        | inr early ↦ rw early refl
      ]

  pub wanted-skip_low : (xs ys : List ℕ) → All (λ m. m < low) xs → wanted rule start reading low high None (xs ++ ys) ≡ wanted rule start reading low high None ys
  wanted-skip_low [] ys all = refl
  wanted-skip_low (x ∷ xs) ys all =
      wanted-low x (xs ++ ys) (All-head (λ m. m < low) x xs all) ∙ wanted-skip_low xs ys (All-tail (λ m. m < low) x xs all)

  -- the set's later moments in the range
  pub later_moments-wanted : (moments : List ℕ) → filter lies (later_moments rule start reading moments) ≡ wanted rule start reading low high (one_less rule.count) (at_places rule (found_moments rule start reading moments))
  later_moments-wanted moments =
      ap (λ xs. filter lies (filter (λ m. nat_le m last_written) xs)) (first_counted-left rule.count (filter (until_passes reading rule.until) (filter (λ m. nat_lt start m) (at_places rule (found_moments rule start reading moments)))))

  -- in one: it counts, and is wanted where both tests hold
  pub wanted-tested : (left : Option ℕ) (m : ℕ) (rest : List ℕ) → start < m → until_passes reading rule.until m ≡ true → (left ≡ Some 0 → ⊥) →
      wanted rule start reading low high left (m ∷ rest) ≡ (if nat_le m last_written && lies m then m ∷ wanted rule start reading low high (one_less left) rest else wanted rule start reading low high (one_less left) rest)
  wanted-tested left m rest after by some =
      wanted-counted left m rest after by some ∙ both (nat_le m last_written) (lies m) (m ∷ wanted rule start reading low high (one_less left) rest) (wanted rule start reading low high (one_less left) rest)
    where
      both : (a b : Bool) (xs ys : List ℕ) → (if a then (if b then xs else ys) else ys) ≡ (if a && b then xs else ys)
      both true b xs ys = refl
      both false b xs ys = refl

  -- Where the walk begins.

  counted_below : (first n b : ℕ) → ((m : ℕ) → m < first + n → first ≤ m → m < b) → All (λ m. m < b) (counted_from first n)
  unfolding counted_from
  counted_below first zero b h = All-nil (λ m. m < b)
  counted_below first (suc n) b h = All-cons (λ m. m < b) first (counted_from (first + 1) n) (h first (omega arith) (omega arith)) (counted_below (first + 1) n b (λ m lt le. h m (omega (arith, lt)) (omega (arith, le))))

  pub found_before : (a b : ℕ) → All (λ m. m < b) (found_moments rule start reading (numbers_between a b))
  found_before a b = All-filter (is_found rule start reading) (λ m. m < b) (numbers_between a b) (counted_below a (b - a) b (λ m lt le. omega (arith, lt, le)))

  -- the walk may begin right after the start
  pub begin_after_start : (left : Option ℕ) → (a : ℕ) → a ≤ start + 1 → first_moment ≤ a → a ≤ 86400 * end_day →
      wanted rule start reading low high left (found_from rule start reading first_moment) ≡ wanted rule start reading low high left (found_from rule start reading a)
  begin_after_start left a e from to =
      ap (wanted rule start reading low high left) (found_from-cut rule start reading first_moment a from to)
      ∙ wanted-skip_early left (found_moments rule start reading (numbers_between first_moment a)) (found_from rule start reading a)
      (All-weaker (λ m. m < a) (λ m. m ≤ start) (λ m lt. omega (arith, lt, e)) (found_moments rule start reading (numbers_between first_moment a)) (found_before first_moment a))

  -- without COUNT, at the range
  pub begin_at_low : (a : ℕ) → a ≡ low → first_moment ≤ a → a ≤ 86400 * end_day →
      wanted rule start reading low high None (found_from rule start reading first_moment) ≡ wanted rule start reading low high None (found_from rule start reading a)
  begin_at_low a e from to =
      ap (wanted rule start reading low high None) (found_from-cut rule start reading first_moment a from to)
      ∙ wanted-skip_low (found_moments rule start reading (numbers_between first_moment a)) (found_from rule start reading a)
      (All-weaker (λ m. m < a) (λ m. m < low) (λ m lt. omega (arith, lt, e)) (found_moments rule start reading (numbers_between first_moment a)) (found_before first_moment a))

-- One kept moment more.

pub starts_by-append : (reading : Reading) (m : ℕ) (rest : List ℕ) (out : List ℤ) → (out ++ reading.instant (seconds_since_1970 m) ∷ []) ++ starts_by reading rest ≡ out ++ starts_by reading (m ∷ rest)
starts_by-append reading m rest out = rw append_assoc refl

none_of : (o : Option ℕ) → is_some o ≡ false → o ≡ None
none_of None h = refl
none_of (Some x) h = absurd cc

-- where there is no COUNT, none is left out by it
pub no_count : (o : Option ℕ) → is_some o ≡ false → one_less o ≡ None
no_count o h = let none = none_of o h in rw none refl
