-- A sorted list without repeats is the numbers of another in rising order.
use Rattle.std.proofs.Common.{◌≡◌, List, [], ◌∷◌, refl, ◌∙◌, arith, ℤ, Less}
use Rattle.std.specs.Prelude.{AllPairs}
use Rattle.std.specs.Ordering.{int_cmp}
use Rattle.std.specs.Ordering.{int_eq}
use Rattle.std.specs.Cmp.{int_cmp_total, int_eq_equiv, signed_Decides}
use Rattle.std.specs.List.{dedup}
use Rattle.std.specs.List.Sorted.{IsPermutation, IsSorted, IsStrictlySortedBy}
use Rattle.std.proofs.lemmas.Int.{ints}
use Rattle.std.proofs.lemmas.List.Elements.{All-from_recursion, All-weaker}
use Rattle.std.proofs.lemmas.List.Kept.{AllPairs-cons, Contains-dedup, Contains-from_dedup, IsStrictlySortedBy-dedup}
use Rattle.std.proofs.lemmas.List.Sorted.{Contains-permutation, IsPermutation-sym}
use Rattle.cal_model.specs.Instances.Starts.{ascending}
use Rattle.cal_model.proofs.Instances.RisingLists.{IsBelow, ascending-is}

below_of_less : (x y : ℤ) → int_cmp x y ≡ Less → IsBelow x y
below_of_less x y h = grind (arith, ints, h)

strictly_up : (xs : List ℤ) → IsStrictlySortedBy int_cmp xs → AllPairs IsBelow xs
unfolding IsStrictlySortedBy
strictly_up [] up = λ i j d lt below. absurd (omega (arith, below))
strictly_up (x ∷ xs) up =
    AllPairs-cons IsBelow x xs (All-weaker (λ y. int_cmp x y ≡ Less) (IsBelow x) (λ y h. below_of_less x y h) xs (All-from_recursion (λ y. int_cmp x y ≡ Less) xs up.0)) (strictly_up xs up.1)

pub rising_is : (xs ys zs : List ℤ) → IsPermutation xs ys → IsSorted int_cmp ys → zs ≡ dedup int_eq ys → zs ≡ ascending xs
rising_is xs ys zs moved sorted kept =
    let up = IsStrictlySortedBy-dedup int_cmp_total {E = int_eq} (λ x y. refl) ys sorted in
    kept ∙ ascending-is (dedup int_eq ys) xs (strictly_up (dedup int_eq ys) up)
    (λ z c. Contains-permutation ys xs z (IsPermutation-sym xs ys moved) (Contains-from_dedup int_eq ys z c))
    (λ z c. Contains-dedup int_eq_equiv (λ x y e. (signed_Decides x y).0 e) ys z (Contains-permutation xs ys z moved c))
