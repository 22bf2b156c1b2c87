-- Lists under tests: what `list_any`, `filter` and `AllByRecursion` say of one another.
use Rattle.std.proofs.Common.{◌≡◌, ℕ, Bool, true, false, cond, not, ◌&&◌, ◌||◌, List, [], ◌∷◌, ◌++◌, map, length, get_or, Option, Some, None, refl, sym, ap, ◌∙◌, arith}
use Rattle.std.specs.Prelude.{All, filter, filter_map, option_to_list, slice_get}
use Rattle.std.specs.List.{list_any, cons_option, Contains, AllByRecursion}
use Rattle.std.proofs.lemmas.Bool.{false≢true, ne_eqb}
use Rattle.std.proofs.lemmas.List.Elements.{Contains-get_or, recursion_from_All}
use Rattle.std.proofs.lemmas.List.Folds.{list_any_at, Any-from_list_any}
use Rattle.std.proofs.lemmas.Option.{slice_get_within, get_or_from_slice_get}
use Rattle.cal_model.specs.Words.Lists.{is_empty}

pub same_bool : (s t : Bool) → (s ≡ true → t ≡ true) → (t ≡ true → s ≡ true) → s ≡ t
same_bool true t f g = sym (f refl)
same_bool false true f g = g refl
same_bool false false f g = refl

pub or_left : (s t : Bool) → s ≡ true → (s || t) ≡ true
or_left true t e = refl
or_left false t e = absurd (false≢true e)

pub or_right : (s t : Bool) → t ≡ true → (s || t) ≡ true
or_right true t e = refl
or_right false t e = e

pub cond_same : (test : Bool) (s s' t t' : Bool) → s ≡ s' → t ≡ t' → cond test s t ≡ cond test s' t'
cond_same test s s' t t' e f = λ i. cond test (e i) (f i)

pub not_empty : {X : Type 0} (xs : List X) (x : X) → Contains xs x → not (is_empty xs) ≡ true
not_empty [] x c = absurd (omega (arith, c.1))
not_empty (y ∷ xs) x c = ap not (ne_eqb (length (y ∷ xs)) 0 (λ e. omega (arith, e)))

pub any_from : {X : Type 0} (p : X → Bool) (xs : List X) (x : X) → Contains xs x → p x ≡ true → list_any p xs ≡ true
any_from p xs x c e = list_any_at p xs c.0 x c.1 (ap p c.2 ∙ e)

pub any_at : {X : Type 0} (p : X → Bool) (xs : List X) (k : ℕ) (x : X) → slice_get xs k ≡ Some x → p x ≡ true → list_any p xs ≡ true
any_at p xs k x e h = any_from p xs x (k, slice_get_within xs k x e, get_or_from_slice_get xs k x x e) h

-- a test that finds nothing beyond some elements finds in all what it finds in those
pub any_same : {X : Type 0} (p : X → Bool) (some all : List X) → ((x : X) → Contains some x → Contains all x) → ((x : X) → Contains all x → p x ≡ true → Contains some x) → list_any p some ≡ list_any p all
any_same p some all sub enough = same_bool (list_any p some) (list_any p all)
    (λ e. let found = Any-from_list_any p some e in any_from p all found.1 (sub found.1 (found.0, found.2, found.3)) found.4)
    (λ e. let found = Any-from_list_any p all e in any_from p some found.1 (enough found.1 (found.0, found.2, found.3) found.4) found.4)

pub any_agree : {X : Type 0} (p q : X → Bool) (Q : X → Type 0) → ((x : X) → Q x → p x ≡ q x) → (xs : List X) → AllByRecursion Q xs → list_any p xs ≡ list_any q xs
any_agree p q Q f [] a = refl
any_agree p q Q f (x ∷ xs) a = rw (f x a.0) (ap (λ t. q x || t) (any_agree p q Q f xs a.1))

pub any_agree_all : {X : Type 0} (p q : X → Bool) → ((x : X) → p x ≡ q x) → (xs : List X) → list_any p xs ≡ list_any q xs
any_agree_all p q f [] = refl
any_agree_all p q f (x ∷ xs) = rw (f x) (ap (λ t. q x || t) (any_agree_all p q f xs))

pub any_cond : {X : Type 0} (p : X → Bool) (test : Bool) (x : X) (xs : List X) → list_any p (cond test (x ∷ xs) xs) ≡ ((test && p x) || list_any p xs)
any_cond p true x xs = refl
any_cond p false x xs = refl

pub any_filter : {X : Type 0} (p q : X → Bool) (xs : List X) → list_any p (filter q xs) ≡ list_any (λ x. q x && p x) xs
any_filter p q [] = refl
any_filter p q (x ∷ xs) = any_cond p (q x) x (filter q xs) ∙ ap (λ t. (q x && p x) || t) (any_filter p q xs)

pub any_map : {X Y : Type 0} (p : Y → Bool) (f : X → Y) (xs : List X) → list_any p (map f xs) ≡ list_any (λ x. p (f x)) xs
any_map p f [] = refl
any_map p f (x ∷ xs) = ap (λ t. p (f x) || t) (any_map p f xs)

pub any_constant : {X : Type 0} (p : X → Bool) (b : Bool) → ((x : X) → p x ≡ b) → (xs : List X) → (b || list_any p xs) ≡ b
any_constant p true f xs = refl
any_constant p false f [] = refl
any_constant p false f (x ∷ xs) = rw (f x) (any_constant p false f xs)

pub any_option : {Y : Type 0} (p : Y → Bool) (o : Option Y) (ys : List Y) → list_any p (cons_option o ys) ≡ (list_any p (option_to_list o) || list_any p ys)
any_option p None ys = refl
any_option p (Some y) ys = either (p y) (list_any p ys)
  where
    either : (s t : Bool) → (s || t) ≡ ((s || false) || t)
    either true t = refl
    either false t = refl

pub any_filter_map : {X Y : Type 0} (p : Y → Bool) (f : X → Option Y) (xs : List X) → list_any p (filter_map f xs) ≡ list_any (λ x. list_any p (option_to_list (f x))) xs
any_filter_map p f [] = refl
any_filter_map p f (x ∷ xs) = any_option p (f x) (filter_map f xs) ∙ ap (λ t. list_any p (option_to_list (f x)) || t) (any_filter_map p f xs)

pub all_cond : {X : Type 0} (Q : X → Type 0) (test : Bool) (x : X) (xs : List X) → Q x → AllByRecursion Q xs → AllByRecursion Q (cond test (x ∷ xs) xs)
all_cond Q true x xs q a = (q, a)
all_cond Q false x xs q a = a

pub all_filter : {X : Type 0} (Q : X → Type 0) (p : X → Bool) (xs : List X) → AllByRecursion Q xs → AllByRecursion Q (filter p xs)
all_filter Q p [] a = tt
all_filter Q p (x ∷ xs) a = all_cond Q (p x) x (filter p xs) a.0 (all_filter Q p xs a.1)

pub all_front : {X : Type 0} (Q : X → Type 0) (xs ys : List X) → AllByRecursion Q (xs ++ ys) → AllByRecursion Q xs
all_front Q [] ys a = tt
all_front Q (x ∷ xs) ys a = (a.0, all_front Q xs ys a.1)

pub all_back : {X : Type 0} (Q : X → Type 0) (xs ys : List X) → AllByRecursion Q (xs ++ ys) → AllByRecursion Q ys
all_back Q [] ys a = a
all_back Q (x ∷ xs) ys a = all_back Q xs ys a.1

pub each : {X : Type 0} (Q : X → Type 0) (xs : List X) → ((x : X) → Contains xs x → Q x) → AllByRecursion Q xs
each Q xs f = recursion_from_All Q xs (λ k d l. f (get_or xs k d) (Contains-get_or xs k d l))

pub each_of : {X : Type 0} (Q : X → Type 0) (xs : List X) → ((x : X) → Contains xs x → Q x) → All Q xs
each_of Q xs f = λ k d l. f (get_or xs k d) (Contains-get_or xs k d l)

pub filter_cond : {X : Type 0} (p : X → Bool) (test : Bool) (x : X) (xs : List X) → filter p (cond test (x ∷ xs) xs) ≡ cond (test && p x) (x ∷ filter p xs) (filter p xs)
filter_cond p true x xs = refl
filter_cond p false x xs = refl

pub filter-filter : {X : Type 0} (p q : X → Bool) (xs : List X) → filter p (filter q xs) ≡ filter (λ x. q x && p x) xs
filter-filter p q [] = refl
filter-filter p q (x ∷ xs) = filter_cond p (q x) x (filter q xs) ∙ ap (λ ys. cond (q x && p x) (x ∷ ys) ys) (filter-filter p q xs)

pub filter_agreed : {X : Type 0} (p q : X → Bool) (xs : List X) → AllByRecursion (λ x. p x ≡ q x) xs → filter p xs ≡ filter q xs
filter_agreed p q [] a = refl
filter_agreed p q (x ∷ xs) a = λ i. cond (a.0 i) (x ∷ filter_agreed p q xs a.1 i) (filter_agreed p q xs a.1 i)

-- a test that passes only what is kept
pub and_kept : (k t : Bool) → (t ≡ true → k ≡ true) → (k && t) ≡ t
and_kept true t f = refl
and_kept false true f = f refl
and_kept false false f = refl

abbrev pub Keeps : {X : Type 0} → (X → Bool) → List X → (X → Bool) → Type 0
Keeps {X} keep all p = (x : X) → Contains all x → p x ≡ true → keep x ≡ true

pub filter_kept : {X : Type 0} (keep p : X → Bool) (all : List X) → Keeps keep all p → filter p (filter keep all) ≡ filter p all
filter_kept keep p all f = filter-filter p keep all ∙ filter_agreed (λ row. keep row && p row) p all (each (λ row. (keep row && p row) ≡ p row) all (λ row c. and_kept (keep row) (p row) (f row c)))

pub any_kept : {X : Type 0} (keep p : X → Bool) (all : List X) → Keeps keep all p → list_any p (filter keep all) ≡ list_any p all
any_kept keep p all f = any_filter p keep all ∙ any_agree (λ row. keep row && p row) p (λ row. (keep row && p row) ≡ p row) (λ row e. e) all (each (λ row. (keep row && p row) ≡ p row) all (λ row c. and_kept (keep row) (p row) (f row c)))
