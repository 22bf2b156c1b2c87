-- Of numbers in rising order the first ones are those at or before a moment.
use Rattle.std.proofs.Common.{◌≡◌, ℕ, zero, suc, ◌≤◌, ◌<◌, Bool, true, false, cond, List, [], ◌∷◌, length, ap, arith}
use Rattle.std.specs.Prelude.{ℤ, int_le, int_lt}
use Rattle.std.specs.Ordering.{int_cmp, is_lt}
use Rattle.std.specs.Cmp.{int_cmp_total}
use Rattle.std.specs.List.{AllWithin, count_by}
use Rattle.std.specs.List.Sorted.{IsSorted, IsPartitionedBy}
use Rattle.std.proofs.lemmas.Int.{ints}
use Rattle.std.proofs.lemmas.List.Sorted.{ranks_by, sorted_far}
use Rattle.std.proofs.lemmas.List.Sums.{sum_by-cons}
use Rattle.std.specs.Prelude.{◌≤ℤ◌}
use Rattle.std.proofs.Common.{get_or}

pub le_of : (x y : ℤ) → is_lt (int_cmp y x) ≡ false → x ≤ℤ y
le_of x y is = grind (arith, ints)

pub le_far : (xs : List ℤ) → IsSorted int_cmp xs → (i j : ℕ) (d : ℤ) → i ≤ j → j < length xs → get_or xs i d ≤ℤ get_or xs j d
le_far xs up i j d low high = le_of (get_or xs i d) (get_or xs j d) (sorted_far (λ (x y : ℤ). is_lt (int_cmp x y)) (ranks_by int_cmp_total (λ (x : ℤ). x)) xs up i j d low high)

before_below : (x y at : ℤ) → x ≤ℤ y → int_lt y at ≡ true → int_lt x at ≡ true
before_below x y at low is = grind (arith, ints)

pub is_partitioned : (xs : List ℤ) (at : ℤ) → IsSorted int_cmp xs → IsPartitionedBy (λ (x : ℤ). int_lt x at) xs
is_partitioned xs at up i j d low high is = before_below (get_or xs i d) (get_or xs j d) at (le_far xs up i j d low high) is

pub count_until-is : (xs : List ℤ) (at : ℤ) (n : ℕ) → n ≤ length xs → AllWithin (λ (x : ℤ). int_le x at ≡ true) xs 0 n → AllWithin (λ (x : ℤ). int_le x at ≡ false) xs n (length xs)
    → n ≡ count_by (λ (x : ℤ). int_le x at) xs
count_until-is [] at n few before after = omega arith
count_until-is (x ∷ xs) at zero few before after =
    let first : ◌≡◌ {A = ℕ} (cond (int_le x at) 1 0) 0 = ap (λ (b : Bool). cond b 1 0) (after 0 x (omega arith) (omega arith)) in
    let rest : 0 ≡ count_by (λ (y : ℤ). int_le y at) xs = count_until-is xs at 0 (omega arith) (λ k d low high. absurd (omega (arith, high))) (λ k d low high. after (suc k) d (omega arith) (omega (arith, high))) in
    omega (arith, rest, first, sum_by-cons (λ (y : ℤ). cond (int_le y at) 1 0) x xs)
count_until-is (x ∷ xs) at (suc n) few before after =
    let first : ◌≡◌ {A = ℕ} (cond (int_le x at) 1 0) 1 = ap (λ (b : Bool). cond b 1 0) (before 0 x (omega arith) (omega arith)) in
    let rest : n ≡ count_by (λ (y : ℤ). int_le y at) xs = count_until-is xs at n (omega (arith, few)) (λ k d low high. before (suc k) d (omega arith) (omega (arith, high))) (λ k d low high. after (suc k) d (omega (arith, low)) (omega (arith, high))) in
    omega (arith, rest, first, sum_by-cons (λ (y : ℤ). cond (int_le y at) 1 0) x xs)
