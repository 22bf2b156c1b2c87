-- Numbers that stand twice: the numbers of a list in order, each once, are fewer where one does.
use Rattle.std.proofs.Common.{◌≡◌, ℕ, suc, ◌<◌, ◌≤◌, List, [], ◌∷◌, length, refl, sym, ap, ◌∙◌, arith, Bool, true, false, ℤ, ◌<ℤ◌, inl, inr, nat_lt}
use Rattle.std.specs.Prelude.{AllPairs, Contains, if◌then◌else◌, int_lt}
use Rattle.std.specs.List.{list_any}
use Rattle.std.proofs.lemmas.Int.{ints}
use Rattle.std.proofs.lemmas.Bool.{cases_Bool}
use Rattle.std.proofs.lemmas.List.Elements.{All-contains}
use Rattle.cal_model.specs.Words.Integers.{same_int}
use Rattle.cal_model.proofs.Words.IntegerLemmas.{same_int-self, same_int-true}
use Rattle.cal_model.specs.Instances.Starts.{put, ascending}
use Rattle.cal_model.proofs.Instances.RisingLists.{IsBelow, AllPairs-head, AllPairs-tail, Contains-there, Contains-split, ascending-rising, ascending-has, ascending-only}
use Rattle.cal_object.specs.Identifiers.{has_double}

-- Members

any_of_member : (xs : List ℤ) (x : ℤ) → Contains xs x → list_any (same_int x) xs ≡ true
any_of_member [] x c = let below = c.1 in absurd (omega (arith, below))
any_of_member (y ∷ ys) x c = elim (cases_Bool (same_int x y)) [
  | inl w ↦ rw w refl
  | inr w ↦ rw w (elim (Contains-split y x ys c) [
    | inl e ↦ absurd (let self : same_int x y ≡ true = rw e (same_int-self x) in cc)
    | inr b ↦ any_of_member ys x b
  ])
]

none_of_list : (xs : List ℤ) (x : ℤ) → (Contains xs x → ⊥) → list_any (same_int x) xs ≡ false
none_of_list [] x absent = refl
none_of_list (y ∷ ys) x absent = elim (cases_Bool (same_int x y)) [
  | inl w ↦ absurd (absent (0, omega arith, sym (same_int-true x y w)))
  | inr w ↦ rw w (none_of_list ys x (λ c. absent (Contains-there y x ys c)))
]

member_of_any : (xs : List ℤ) (x : ℤ) → list_any (same_int x) xs ≡ true → Contains xs x
member_of_any [] x h = absurd cc
member_of_any (y ∷ ys) x h = elim (cases_Bool (same_int x y)) [
  | inl w ↦ (0, omega arith, sym (same_int-true x y w))
  | inr w ↦ Contains-there y x ys (member_of_any ys x (rw w at h))
]

any_ascending : (x : ℤ) (xs : List ℤ) → list_any (same_int x) (ascending xs) ≡ list_any (same_int x) xs
any_ascending x xs = elim (cases_Bool (list_any (same_int x) xs)) [
  | inl w ↦ any_of_member (ascending xs) x (ascending-has x xs (member_of_any xs x w)) ∙ sym w
  | inr w ↦ none_of_list (ascending xs) x (λ c. let there = any_of_member xs x (ascending-only x xs c) in absurd cc) ∙ sym w
]

-- Lengths

-- a number below the first of a rising list is not in it
not_below : (z x : ℤ) (xs : List ℤ) → AllPairs IsBelow (x ∷ xs) → z <ℤ x → Contains (x ∷ xs) z → ⊥
not_below z x xs up lt c = elim (Contains-split x z xs c) [
  | inl e ↦ omega (arith, ints, lt, e)
  | inr b ↦ (let above = All-contains (IsBelow x) xs z (AllPairs-head IsBelow x xs up) b in omega (arith, ints, lt, above))
]

put-length : (z : ℤ) (xs : List ℤ) → AllPairs IsBelow xs → length (put z xs) ≡ (if list_any (same_int z) xs then length xs else suc (length xs))
put-length z [] up = refl
put-length z (x ∷ xs) up = elim (cases_Bool (int_lt z x)) [
  | inl w ↦ (let lt : z <ℤ x = grind (arith, ints, w) in let none = none_of_list (x ∷ xs) z (not_below z x xs up lt) in rw (w, none) refl)
  | inr w ↦ elim (cases_Bool (same_int z x)) [
    | inl v ↦ rw (w, v) refl
    | inr v ↦ rw (w, v) (ap suc (put-length z xs (AllPairs-tail IsBelow x xs up)) ∙ either (list_any (same_int z) xs) (length xs))
  ]
]
  where
    either : (b : Bool) (n : ℕ) → suc (if b then n else suc n) ≡ (if b then suc n else suc (suc n))
    either true n = refl
    either false n = refl

ascending-short : (zs : List ℤ) → length (ascending zs) ≤ length zs
ascending-short [] = omega arith
ascending-short (z ∷ zs) =
    let rest = ascending-short zs in
    let one = put-length z (ascending zs) (ascending-rising zs) in
    elim (cases_Bool (list_any (same_int z) (ascending zs))) [
      | inl w ↦ (let same : length (put z (ascending zs)) ≡ length (ascending zs) = rw w at one in omega (arith, same, rest))
      | inr w ↦ (let more : length (put z (ascending zs)) ≡ suc (length (ascending zs)) = rw w at one in omega (arith, more, rest))
    ]

lt_more : (a b : ℕ) → nat_lt a b ≡ nat_lt (suc a) (suc b)
lt_more a b = grind arith

lt_true : (a b : ℕ) → a < b → nat_lt a b ≡ true
lt_true a b lt = grind arith

-- a number stands twice where the numbers in order, each once, are fewer
pub has_double-length : (zs : List ℤ) → has_double zs ≡ nat_lt (length (ascending zs)) (length zs)
has_double-length [] = refl
has_double-length (z ∷ zs) =
    let one = put-length z (ascending zs) (ascending-rising zs) in
    let short = ascending-short zs in
    elim (cases_Bool (list_any (same_int z) zs)) [
      | inl w ↦ (let there = any_ascending z zs ∙ w in
          let same : length (put z (ascending zs)) ≡ length (ascending zs) = rw there at one in
          rw w (sym (lt_true (length (put z (ascending zs))) (suc (length zs)) (omega (arith, same, short)))))
      | inr w ↦ (let absent = any_ascending z zs ∙ w in
          let more : length (put z (ascending zs)) ≡ suc (length (ascending zs)) = rw absent at one in
          rw (w, more) (has_double-length zs ∙ lt_more (length (ascending zs)) (length zs)))
    ]
