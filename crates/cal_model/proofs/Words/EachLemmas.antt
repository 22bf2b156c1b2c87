-- What holds of each element of a list, through finds, filters and maps: by recursion, as std's `AllByRecursion`. `AllLemmas` has the same subject by places.
use Rattle.std.proofs.Common.{◌≡◌, List, [], ◌∷◌, ◌++◌, map, refl, sym, Bool, true, false}
use Rattle.std.specs.Prelude.{Option, Some, None, find, filter, filter_map, flat_map, ◌||◌, ◌&&◌, option_map, if◌then◌else◌}
use Rattle.std.specs.List.{list_any, AllByRecursion as Each, cons_option}
use Rattle.std.proofs.lemmas.Bool.{false≢true}
use Rattle.std.proofs.lemmas.Option.{none-some}

-- of two tests of which one or the other is meant, neither holds
pub neither : (a b : Bool) → (a || b) ≡ false → (a ≡ false) × (b ≡ false)
neither true b none = absurd (false≢true (sym none))
neither false b none = (refl, none)

pub both_hold : (a b : Bool) → (a && b) ≡ true → (a ≡ true) × (b ≡ true)
both_hold true b good = (refl, good)
both_hold false b good = absurd (false≢true good)

pub none_of_map : {X Y : Type 0} (f : X → Y) (o : Option X) → option_map f o ≡ None → o ≡ None
none_of_map f None none = refl
none_of_map f (Some x) none = absurd (none-some (f x) (sym none))

-- what a test finds nowhere
find_step : {X : Type 0} (p : X → Bool) (x : X) (xs : List X) (b : Bool) → (if b then Some x else find p xs) ≡ None → (b ≡ false) × (find p xs ≡ None)
find_step p x xs true none = absurd (none-some x (sym none))
find_step p x xs false none = (refl, none)

pub each_of_find : {X : Type 0} (p : X → Bool) (xs : List X) → find p xs ≡ None → Each (λ x. p x ≡ false) xs
each_of_find p [] none = tt
each_of_find p (x ∷ xs) none = let step = find_step p x xs (p x) none in (step.0, each_of_find p xs step.1)

pub each_of_any : {X : Type 0} (p : X → Bool) (xs : List X) → list_any p xs ≡ false → Each (λ x. p x ≡ false) xs
each_of_any p [] none = tt
each_of_any p (x ∷ xs) none = let step = neither (p x) (list_any p xs) none in (step.0, each_of_any p xs step.1)

pub each-weaker : {X : Type 0} {P Q : X → Type 0} → ((x : X) → P x → Q x) → (xs : List X) → Each P xs → Each Q xs
each-weaker weaken [] facts = tt
each-weaker weaken (x ∷ xs) facts = (weaken x facts.0, each-weaker weaken xs facts.1)

pub each-both : {X : Type 0} (P Q : X → Type 0) (xs : List X) → Each P xs → Each Q xs → Each (λ x. P x × Q x) xs
each-both P Q [] ps qs = tt
each-both P Q (x ∷ xs) ps qs = ((ps.0, qs.0), each-both P Q xs ps.1 qs.1)

-- through a filter
filter_step : {X : Type 0} (P : X → Type 0) (x : X) (kept : List X) (b : Bool) → P x → Each P kept → Each P (if b then x ∷ kept else kept)
filter_step P x kept true fact facts = (fact, facts)
filter_step P x kept false fact facts = facts

pub each-filter : {X : Type 0} (P : X → Type 0) (p : X → Bool) (xs : List X) → Each P xs → Each P (filter p xs)
each-filter P p [] facts = tt
each-filter P p (x ∷ xs) facts = filter_step P x (filter p xs) (p x) facts.0 (each-filter P p xs facts.1)

passing_step : {X : Type 0} (p : X → Bool) (x : X) (kept : List X) (b : Bool) → p x ≡ b → Each (λ y. p y ≡ true) kept → Each (λ y. p y ≡ true) (if b then x ∷ kept else kept)
passing_step p x kept true is facts = (is, facts)
passing_step p x kept false is facts = facts

pub each_passes : {X : Type 0} (p : X → Bool) (xs : List X) → Each (λ x. p x ≡ true) (filter p xs)
each_passes p [] = tt
each_passes p (x ∷ xs) = passing_step p x (filter p xs) (p x) refl (each_passes p xs)

-- through maps
pub each-map : {X Y : Type 0} (P : Y → Type 0) (f : X → Y) (xs : List X) → Each (λ x. P (f x)) xs → Each P (map f xs)
each-map P f [] facts = tt
each-map P f (x ∷ xs) facts = (facts.0, each-map P f xs facts.1)

pub each_of_map : {X Y : Type 0} (P : Y → Type 0) (f : X → Y) (xs : List X) → Each P (map f xs) → Each (λ x. P (f x)) xs
each_of_map P f [] facts = tt
each_of_map P f (x ∷ xs) facts = (facts.0, each_of_map P f xs facts.1)

filter_map_step : {X Y : Type 0} (P : Y → Type 0) (f : X → Option Y) (x : X) (made : List Y) (o : Option Y) → f x ≡ o → ((y : Y) → f x ≡ Some y → P y) → Each P made → Each P (cons_option o made)
filter_map_step P f x made None is fact facts = facts
filter_map_step P f x made (Some y) is fact facts = (fact y is, facts)

pub each-filter_map : {X Y : Type 0} (Q : X → Type 0) (P : Y → Type 0) (f : X → Option Y) → ((x : X) (y : Y) → Q x → f x ≡ Some y → P y) →
    (xs : List X) → Each Q xs → Each P (filter_map f xs)
each-filter_map Q P f make [] facts = tt
each-filter_map Q P f make (x ∷ xs) facts =
    filter_map_step P f x (filter_map f xs) (f x) refl (λ y is. make x y facts.0 is) (each-filter_map Q P f make xs facts.1)

pub each-append : {X : Type 0} (P : X → Type 0) (xs ys : List X) → Each P xs → Each P ys → Each P (xs ++ ys)
each-append P [] ys left right = right
each-append P (x ∷ xs) ys left right = (left.0, each-append P xs ys left.1 right)

pub each_of_append : {X : Type 0} (P : X → Type 0) (xs ys : List X) → Each P (xs ++ ys) → Each P xs × Each P ys
each_of_append P [] ys facts = (tt, facts)
each_of_append P (x ∷ xs) ys facts = let rest = each_of_append P xs ys facts.1 in ((facts.0, rest.0), rest.1)

pub each-flat_map : {X Y : Type 0} (P : Y → Type 0) (f : X → List Y) (xs : List X) → Each (λ x. Each P (f x)) xs → Each P (flat_map f xs)
each-flat_map P f [] facts = tt
each-flat_map P f (x ∷ xs) facts = each-append P (f x) (flat_map f xs) facts.0 (each-flat_map P f xs facts.1)

pub each_of_flat_map : {X Y : Type 0} (P : Y → Type 0) (f : X → List Y) (xs : List X) → Each P (flat_map f xs) → Each (λ x. Each P (f x)) xs
each_of_flat_map P f [] facts = tt
each_of_flat_map P f (x ∷ xs) facts =
    let parts = each_of_append P (f x) (flat_map f xs) facts in (parts.0, each_of_flat_map P f xs parts.1)
