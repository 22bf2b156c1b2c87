-- The greatest of some ends, and the first start of a day.
use Rattle.std.proofs.Common.{◌≡◌, List, [], ◌∷◌, refl, arith, Bool, true, false, ℤ, ◌<ℤ◌, ◌≤ℤ◌, inl, inr}
use Rattle.std.specs.Prelude.{All, AllPairs, Contains, filter, int_lt}
use Rattle.std.proofs.lemmas.Int.{ints}
use Rattle.std.proofs.lemmas.Bool.{cases_Bool}
use Rattle.std.proofs.lemmas.List.Elements.{All-head, All-tail, All-cons, All-contains}
use Rattle.cal_model.specs.Words.Integers.{greatest_of}
use Rattle.cal_model.specs.Words.Lists.{first_or_else}
use Rattle.cal_model.proofs.Instances.RisingLists.{IsBelow, Contains-split, Contains-there, AllPairs-head, AllPairs-tail}

here : (x y : ℤ) (xs : List ℤ) → x ≡ y → Contains (x ∷ xs) y
here x y xs e = (0, omega arith, e)

-- a member that none exceeds is the greatest
pub greatest_of-is : (z : ℤ) (xs : List ℤ) (e : ℤ) → Contains (z ∷ xs) e → All (λ y. y ≤ℤ e) (z ∷ xs) → greatest_of z xs ≡ e
greatest_of-is z [] e c most = elim (Contains-split z e [] c) [
  | inl same ↦ same
  | inr none ↦ (let below = none.1 in absurd (omega (arith, below)))
]
greatest_of-is z (x ∷ xs) e c most =
    let first = All-head (λ y. y ≤ℤ e) z (x ∷ xs) most in
    let rest = All-tail (λ y. y ≤ℤ e) z (x ∷ xs) most in
    let second = All-head (λ y. y ≤ℤ e) x xs rest in
    elim (cases_Bool (int_lt z x)) [
      | inl w ↦ rw w (let lt : z <ℤ x = grind (arith, ints, w) in
          greatest_of-is x xs e (elim (Contains-split z e (x ∷ xs) c) [ inl same ↦ absurd (omega (arith, ints, lt, second, same)) | inr later ↦ later ]) rest)
      | inr w ↦ rw w (let le : x ≤ℤ z = grind (arith, ints, w) in
          greatest_of-is z xs e (elim (Contains-split z e (x ∷ xs) c) [
            | inl same ↦ here z e xs same
            | inr later ↦ elim (Contains-split x e xs later) [
              | inl same ↦ here z e xs (omega (arith, ints, le, first, same))
              | inr deep ↦ Contains-there z e xs deep
            ]
          ]) (All-cons (λ y. y ≤ℤ e) z xs first (All-tail (λ y. y ≤ℤ e) x xs rest)))
    ]

-- of a rising list the first that passes is the least that does
pub first_passing : (none : ℤ) (p : ℤ → Bool) (xs : List ℤ) (r : ℤ) → AllPairs IsBelow xs → Contains xs r → p r ≡ true → ((q : ℤ) → Contains xs q → p q ≡ true → r ≤ℤ q) → first_or_else none (filter p xs) ≡ r
first_passing none p [] r up c passes least = let below = c.1 in absurd (omega (arith, below))
first_passing none p (x ∷ xs) r up c passes least = elim (cases_Bool (p x)) [
  | inl w ↦ rw w (elim (Contains-split x r xs c) [
    | inl same ↦ same
    | inr later ↦ (let before = All-contains (IsBelow x) xs r (AllPairs-head IsBelow x xs up) later in let le = least x (here x x xs refl) w in absurd (omega (arith, ints, before, le)))
  ])
  | inr w ↦ rw w (elim (Contains-split x r xs c) [
    | inl same ↦ absurd (let fails : p r ≡ false = rw same at w in cc)
    | inr later ↦ first_passing none p xs r (AllPairs-tail IsBelow x xs up) later passes (λ q d h. least q (Contains-there x q xs d) h)
  ])
]
