-- The place of the first item that passes a test, as a recursion.
use Rattle.std.proofs.Common.{◌≡◌, ℕ, suc, ◌+◌, Bool, true, false, cond, List, [], ◌∷◌, ◌++◌, length, map, Option, Some, None, refl, sym, ap, ◌∙◌, arith}
use Rattle.std.specs.Option.{option_map}
use Rattle.std.specs.List.{position, position_from}
use Rattle.std.proofs.lemmas.Iterator.Adapters.{position_from-zero}

abbrev pub place_in : {X : Type 0} → (X → Bool) → List X → Option ℕ
place_in test [] = None
place_in test (x ∷ xs) = cond (test x) (Some 0) (option_map suc (place_in test xs))

from_one : (i : ℕ) (here : Bool) (o : Option ℕ) (rest : Option ℕ) → rest ≡ option_map (λ n. (i + 1) + n) o → cond here (Some i) rest ≡ option_map (λ n. i + n) (cond here (Some 0) (option_map suc o))
from_one i true o rest e = ap Some (omega arith)
from_one i false None rest e = e
from_one i false (Some n) rest e = e ∙ ap Some (omega arith)

position_from-place_in : {X : Type 0} (test : X → Bool) (i : ℕ) (xs : List X) → position_from test i xs ≡ option_map (λ n. i + n) (place_in test xs)
position_from-place_in test i [] = refl
position_from-place_in test i (x ∷ xs) = from_one i (test x) (place_in test xs) _ (position_from-place_in test (i + 1) xs)

map-zero : (o : Option ℕ) → option_map (λ n. 0 + n) o ≡ o
map-zero None = refl
map-zero (Some n) = ap Some (omega arith)

pub position-place_in : {X : Type 0} (test : X → Bool) (xs : List X) → position test xs ≡ place_in test xs
position-place_in test xs = position_from-zero test xs ∙ position_from-place_in test 0 xs ∙ map-zero (place_in test xs)

-- of one item more
abbrev pub or_last : {X : Type 0} → (X → Bool) → List X → X → Option ℕ → Option ℕ
or_last test xs x None = cond (test x) (Some (length xs)) None
or_last test xs x (Some n) = Some n

more : {X : Type 0} (test : X → Bool) (xs : List X) (x : X) (o : Option ℕ) → option_map suc (or_last test xs x o) ≡ elim (option_map suc o) [ None ↦ cond (test x) (Some (suc (length xs))) None | Some n ↦ Some n ]
more test xs x None = elim (test x) as (λ b. option_map suc (cond b (Some (length xs)) None) ≡ cond b (Some (suc (length xs))) None) [ true ↦ refl | false ↦ refl ]
more test xs x (Some n) = refl

one_more : {X : Type 0} (test : X → Bool) (y : X) (xs : List X) (x : X) (here : Bool) (o : Option ℕ) (rest : Option ℕ) → rest ≡ or_last test xs x o
    → cond here (Some 0) (option_map suc rest) ≡ or_last test (y ∷ xs) x (cond here (Some 0) (option_map suc o))
one_more test y xs x true o rest e = refl
one_more test y xs x false None rest e = ap (option_map suc) e ∙ more test xs x None
one_more test y xs x false (Some n) rest e = ap (option_map suc) e

pub place_in-push : {X : Type 0} (test : X → Bool) (xs : List X) (x : X) → place_in test (xs ++ x ∷ []) ≡ or_last test xs x (place_in test xs)
place_in-push test [] x = refl
place_in-push test (y ∷ xs) x = one_more test y xs x (test y) (place_in test xs) _ (place_in-push test xs x)

pub position-push : {X : Type 0} (test : X → Bool) (xs : List X) (x : X) → position test (xs ++ x ∷ []) ≡ or_last test xs x (position test xs)
position-push test xs x = position-place_in test (xs ++ x ∷ []) ∙ place_in-push test xs x ∙ ap (or_last test xs x) (sym (position-place_in test xs))

-- of the items that others are made of
place_in-map : {X Y : Type 0} (f : X → Y) (test : Y → Bool) (xs : List X) → place_in test (map f xs) ≡ place_in (λ x. test (f x)) xs
place_in-map f test [] = refl
place_in-map f test (x ∷ xs) = ap (λ o. cond (test (f x)) (Some 0) (option_map suc o)) (place_in-map f test xs)

pub position-map : {X Y : Type 0} (f : X → Y) (test : Y → Bool) (xs : List X) → position test (map f xs) ≡ position (λ x. test (f x)) xs
position-map f test xs = position-place_in test (map f xs) ∙ place_in-map f test xs ∙ sym (position-place_in (λ x. test (f x)) xs)
