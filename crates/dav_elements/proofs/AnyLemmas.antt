-- Tests of lists that are found in one another, one test after another and side by side.
use Rattle.std.proofs.Common.{◌≡◌, Bool, true, false, ◌||◌, List, [], ◌∷◌, refl, sym, ap, ◌∙◌}
use Rattle.std.specs.Prelude.{flat_map}
use Rattle.std.specs.List.{list_any}
use Rattle.std.proofs.lemmas.List.Folds.{list_any-append}

-- Tests side by side

pub or_assoc : (a b c : Bool) → ((a || b) || c) ≡ (a || (b || c))
or_assoc true b c = refl
or_assoc false b c = refl

pub or_false : (a : Bool) → (a || false) ≡ a
or_false true = refl
or_false false = refl

pub or_true : (a : Bool) → (a || true) ≡ true
or_true true = refl
or_true false = refl

pub or_comm : (a b : Bool) → (a || b) ≡ (b || a)
or_comm true b = sym (or_true b)
or_comm false b = sym (or_false b)

-- two by two
pub or_crossed : (a b c d : Bool) → ((a || b) || (c || d)) ≡ ((a || c) || (b || d))
or_crossed true b c d = refl
or_crossed false b c d = sym (or_assoc b c d) ∙ ap (λ t. t || d) (or_comm b c) ∙ or_assoc c b d

pub any_never : {X : Type 0} (xs : List X) → list_any (λ x. false) xs ≡ false
any_never [] = refl
any_never (x ∷ xs) = any_never xs

pub any_or : {X : Type 0} (p q : X → Bool) (xs : List X) → list_any (λ x. p x || q x) xs ≡ (list_any p xs || list_any q xs)
any_or p q [] = refl
any_or p q (x ∷ xs) = ap (λ t. (p x || q x) || t) (any_or p q xs) ∙ or_crossed (p x) (q x) (list_any p xs) (list_any q xs)

-- Tests of what is found in each

pub any_flat : {X Y : Type 0} (p : Y → Bool) (found : X → List Y) (xs : List X) → list_any p (flat_map found xs) ≡ list_any (λ x. list_any p (found x)) xs
any_flat p found [] = refl
any_flat p found (x ∷ xs) = list_any-append p (found x) (flat_map found xs) ∙ ap (λ t. list_any p (found x) || t) (any_flat p found xs)

-- of each, and of what is found in each
pub any_within : {X Y : Type 0} (p : X → Bool) (q : Y → Bool) (found : X → List Y) (xs : List X) → list_any (λ x. p x || list_any q (found x)) xs ≡ (list_any p xs || list_any q (flat_map found xs))
any_within p q found xs = any_or p (λ x. list_any q (found x)) xs ∙ ap (λ t. list_any p xs || t) (sym (any_flat q found xs))
