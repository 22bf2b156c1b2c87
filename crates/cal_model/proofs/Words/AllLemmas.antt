-- What holds of each element of joined, mapped and optional lists: by places, as std's `All`. `EachLemmas` has the same subject by recursion, as std's `AllByRecursion`.
use Rattle.std.proofs.Common.{◌≡◌, ℕ, zero, suc, List, [], ◌∷◌, ◌++◌, map, refl}
use Rattle.std.specs.Prelude.{All, flat_map, option_to_list, slice_get, Option, Some, None}
use Rattle.std.proofs.lemmas.List.Elements.{All-head, All-tail, All-nil, All-cons, All-append}

pub All-everywhere : {X : Type 0} (P : X → Type 0) → ((x : X) → P x) → (xs : List X) → All P xs
All-everywhere P h [] = All-nil P
All-everywhere P h (x ∷ xs) = All-cons P x xs (h x) (All-everywhere P h xs)

pub All-flat_map : {X Y : Type 0} (P : Y → Type 0) (f : X → List Y) (xs : List X) → All (λ x. All P (f x)) xs → All P (flat_map f xs)
All-flat_map P f [] all = All-nil P
All-flat_map P f (x ∷ xs) all =
    All-append P (f x) (flat_map f xs) (All-head (λ x. All P (f x)) x xs all) (All-flat_map P f xs (All-tail (λ x. All P (f x)) x xs all))

pub All-left : {X : Type 0} (P : X → Type 0) (xs ys : List X) → All P (xs ++ ys) → All P xs
All-left P [] ys all = All-nil P
All-left P (x ∷ xs) ys all = All-cons P x xs (All-head P x (xs ++ ys) all) (All-left P xs ys (All-tail P x (xs ++ ys) all))

pub All-right : {X : Type 0} (P : X → Type 0) (xs ys : List X) → All P (xs ++ ys) → All P ys
All-right P [] ys all = all
All-right P (x ∷ xs) ys all = All-right P xs ys (All-tail P x (xs ++ ys) all)

pub All-each_part : {X Y : Type 0} (P : Y → Type 0) (f : X → List Y) (xs : List X) → All P (flat_map f xs) → All (λ x. All P (f x)) xs
All-each_part P f [] all = All-nil _
All-each_part P f (x ∷ xs) all =
    All-cons (λ x. All P (f x)) x xs (All-left P (f x) (flat_map f xs) all) (All-each_part P f xs (All-right P (f x) (flat_map f xs) all))

-- what is there of an option
pub All-option : {X : Type 0} (P : X → Type 0) (o : Option X) → ((x : X) → o ≡ Some x → P x) → All P (option_to_list o)
All-option P None h = All-nil P
All-option P (Some x) h = All-cons P x [] (h x refl) (All-nil P)

pub All-slice_get : {X : Type 0} (P : X → Type 0) (xs : List X) (i : ℕ) (x : X) → All P xs → slice_get xs i ≡ Some x → P x
All-slice_get P [] i x all e = absurd cc
All-slice_get P (y ∷ ys) zero x all e = let same : y ≡ x = cc in rw same at (All-head P y ys all)
All-slice_get P (y ∷ ys) (suc i) x all e = All-slice_get P ys i x (All-tail P y ys all) e

pub All-unmap : {X Y : Type 0} (P : Y → Type 0) (f : X → Y) (xs : List X) → All P (map f xs) → All (λ x. P (f x)) xs
All-unmap P f [] all = All-nil _
All-unmap P f (x ∷ xs) all = All-cons (λ x. P (f x)) x xs (All-head P (f x) (map f xs) all) (All-unmap P f xs (All-tail P (f x) (map f xs) all))
