-- The onsets at or before an instant are the first ones of the list.
use Rattle.std.proofs.Common.{◌≡◌, ℕ, zero, suc, ◌+◌, ◌-◌, ◌<◌, ◌≤◌, List, [], ◌∷◌, length, get_or, refl, arith, true, false, ℤ, inl, inr, nat_lt, ◌<ℤ◌}
use Rattle.std.specs.Prelude.{int_le}
use Rattle.std.specs.List.{AllWithin}
use Rattle.std.proofs.lemmas.Int.{ints}
use Rattle.std.specs.List.Sorted.{IsPartitionedBy}
use Rattle.std.proofs.lemmas.Bool.{cases_Bool, ltb-true, ltb-false}
use Rattle.cal_model.specs.declared.zone.Onset.{Onset}
use Rattle.cal_model.specs.TimeZones.Zones.{offset_among}
use Rattle.cal_model.specs.TimeZones.TableBounds.{IsRising}

le_below : (a b u : ℤ) → a <ℤ b → int_le b u ≡ true → int_le a u ≡ true
le_below a b u lt p = grind (arith, ints, lt, p)

pub is_partitioned : (onsets : List Onset) (u : ℤ) → IsRising onsets → IsPartitionedBy (λ (o : Onset). int_le o.at.0 u) onsets
is_partitioned onsets u h i j d le lt p =
    elim (cases_Bool (nat_lt i j)) [
      | inl w ↦ le_below _ _ u (h.each i j d (ltb-true i j w) lt) p
      | inr w ↦ (let ge : j ≤ i = ltb-false i j w in let same : i ≡ j = omega arith in rw same p)
    ]

-- where none lies at or before, the offset is the one before them all
pub offset_among_none : (before u : ℤ) (xs : List Onset) → AllWithin (λ (o : Onset). int_le o.at.0 u ≡ false) xs 0 (length xs) → offset_among before xs u ≡ before
offset_among_none before u [] h = refl
offset_among_none before u (x ∷ xs) h =
    let first : int_le x.at.0 u ≡ false = h 0 x (omega arith) (omega arith) in
    rw first (offset_among_none before u xs (λ k d low high. h (suc k) d (omega arith) (omega arith)))

-- else that of the last that does
pub offset_among_last : (before u : ℤ) (xs : List Onset) (n : ℕ) (d : Onset) → n < length xs → AllWithin (λ (o : Onset). int_le o.at.0 u ≡ true) xs 0 (n + 1) →
    AllWithin (λ (o : Onset). int_le o.at.0 u ≡ false) xs (n + 1) (length xs) → offset_among before xs u ≡ (get_or xs n d).offset
offset_among_last before u [] n d lt h k = absurd (omega arith)
offset_among_last before u (x ∷ xs) zero d lt h k =
    let first : int_le x.at.0 u ≡ true = h 0 x (omega arith) (omega arith) in
    rw first (offset_among_none x.offset u xs (λ i e low high. k (suc i) e (omega arith) (omega arith)))
offset_among_last before u (x ∷ xs) (suc n) d lt h k =
    let first : int_le x.at.0 u ≡ true = h 0 x (omega arith) (omega arith) in
    rw first (offset_among_last x.offset u xs n d (omega arith) (λ i e low high. h (suc i) e (omega arith) (omega arith)) (λ i e low high. k (suc i) e (omega arith) (omega arith)))

pub offset_among_at : (before u : ℤ) (xs : List Onset) (n : ℕ) (d : Onset) → 0 < n → n ≤ length xs → AllWithin (λ (o : Onset). int_le o.at.0 u ≡ true) xs 0 n →
    AllWithin (λ (o : Onset). int_le o.at.0 u ≡ false) xs n (length xs) → offset_among before xs u ≡ (get_or xs (n - 1) d).offset
offset_among_at before u xs n d pos le h k =
    let same : n - 1 + 1 ≡ n = omega arith in
    offset_among_last before u xs (n - 1) d (omega arith) (rw same h) (rw same k)
