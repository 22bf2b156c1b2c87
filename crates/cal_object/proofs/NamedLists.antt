-- What stands behind one more item of those that pass a test: what each gives, put behind one another.
use Rattle.std.proofs.Common.{◌≡◌, ℕ, ◌+◌, ◌<◌, Bool, true, false, cond, List, [], ◌∷◌, ◌++◌, length, take, drop, get_or, refl, sym, ap, ◌∙◌, Option, Some, None, add-one, suc}
use Rattle.std.specs.List.{cons_option}
use Rattle.std.specs.Prelude.{filter, filter_map, flat_map, map, option_to_list}
use Rattle.std.proofs.lemmas.Grind.{flat_map-append}
use Rattle.std.proofs.lemmas.List.{append-nil, map-append}
use Rattle.std.proofs.lemmas.List.Elements.{filter-append, filter_map-append}
use Rattle.std.proofs.Math.Seq.{take-suc, drop-cons}
use Rattle.cal_base.specs.Lines.ComponentTrees.{first, or_else}

pub take_more_at : {X : Type 0} (xs : List X) (i : ℕ) (x : X) → i < length xs → x ≡ get_or xs i x → take (i + 1) xs ≡ take i xs ++ x ∷ []
take_more_at xs i x within is = rw add-one (take-suc xs i x within ∙ ap (λ y. take i xs ++ y ∷ []) (sym is))

pub drop_at : {X : Type 0} (xs : List X) (i : ℕ) (x : X) → i < length xs → x ≡ get_or xs i x → drop i xs ≡ x ∷ drop (i + 1) xs
drop_at xs i x within is = rw add-one (drop-cons xs i x within ∙ ap (λ y. y ∷ drop (suc i) xs) (sym is))

-- lists

one_named : {X Y : Type 0} (f : X → List Y) (x : X) (b : Bool) → b ≡ true → flat_map f (cond b (x ∷ []) []) ≡ f x
one_named f x b named = rw named (append-nil (f x))

pub more_named : {X Y : Type 0} (f : X → List Y) (p : X → Bool) (xs : List X) (i : ℕ) (x : X) → i < length xs → x ≡ get_or xs i x → p x ≡ true →
    flat_map f (filter p (take (i + 1) xs)) ≡ flat_map f (filter p (take i xs)) ++ f x
more_named f p xs i x within is named =
    ap (λ ys. flat_map f (filter p ys)) (take_more_at xs i x within is)
    ∙ (ap (flat_map f) (filter-append p (take i xs) (x ∷ []))
    ∙ (flat_map-append f (filter p (take i xs)) (filter p (x ∷ []))
    ∙ ap (λ ys. flat_map f (filter p (take i xs)) ++ ys) (one_named f x (p x) named)))

not_named : {X : Type 0} (x : X) (b : Bool) → b ≡ false → cond b (x ∷ []) [] ≡ []
not_named x b other = rw other refl

pub same_named : {X : Type 0} (p : X → Bool) (xs : List X) (i : ℕ) (x : X) → i < length xs → x ≡ get_or xs i x → p x ≡ false →
    filter p (take (i + 1) xs) ≡ filter p (take i xs)
same_named p xs i x within is other =
    ap (filter p) (take_more_at xs i x within is)
    ∙ (filter-append p (take i xs) (x ∷ [])
    ∙ (ap (λ ys. filter p (take i xs) ++ ys) (not_named x (p x) other) ∙ append-nil (filter p (take i xs))))

-- values that may be absent

there : {Y : Type 0} (o : Option Y) → cons_option o [] ≡ option_to_list o
there None = refl
there (Some y) = refl

one_there : {X Y : Type 0} (f : X → Option Y) (x : X) (b : Bool) → b ≡ true → filter_map f (cond b (x ∷ []) []) ≡ option_to_list (f x)
one_there f x b named = rw named (there (f x))

pub more_there : {X Y : Type 0} (f : X → Option Y) (p : X → Bool) (xs : List X) (i : ℕ) (x : X) → i < length xs → x ≡ get_or xs i x → p x ≡ true →
    filter_map f (filter p (take (i + 1) xs)) ≡ filter_map f (filter p (take i xs)) ++ option_to_list (f x)
more_there f p xs i x within is named =
    ap (λ ys. filter_map f (filter p ys)) (take_more_at xs i x within is)
    ∙ (ap (filter_map f) (filter-append p (take i xs) (x ∷ []))
    ∙ (filter_map-append f (filter p (take i xs)) (filter p (x ∷ []))
    ∙ ap (λ ys. filter_map f (filter p (take i xs)) ++ ys) (one_there f x (p x) named)))

-- the first of them

first_by : {X Y : Type 0} (f : X → List Y) (x : X) (xs : List X) (b : Bool) (ys : List Y) → f x ≡ ys →
    first (flat_map f (cond b (x ∷ xs) xs)) ≡ cond b (or_else (first ys) (first (flat_map f xs))) (first (flat_map f xs))
first_by f x xs false ys is = refl
first_by f x xs true [] is = ap (λ zs. first (zs ++ flat_map f xs)) is
first_by f x xs true (y ∷ ys) is = ap (λ zs. first (zs ++ flat_map f xs)) is

pub first_named : {X Y : Type 0} (f : X → List Y) (p : X → Bool) (xs : List X) (i : ℕ) (x : X) → i < length xs → x ≡ get_or xs i x →
    first (flat_map f (filter p (drop i xs))) ≡ cond (p x) (or_else (first (f x)) (first (flat_map f (filter p (drop (i + 1) xs))))) (first (flat_map f (filter p (drop (i + 1) xs))))
first_named f p xs i x within is =
    ap (λ ys. first (flat_map f (filter p ys))) (drop_at xs i x within is)
    ∙ first_by f x (filter p (drop (i + 1) xs)) (p x) (f x) refl

-- each item of one more list

pub map_more : {X Y : Type 0} (f : X → Y) (xs : List X) (i : ℕ) (x : X) → i < length xs → x ≡ get_or xs i x → map f (take (i + 1) xs) ≡ map f (take i xs) ++ f x ∷ []
map_more f xs i x within is = ap (map f) (take_more_at xs i x within is) ∙ map-append f (take i xs) (x ∷ [])
