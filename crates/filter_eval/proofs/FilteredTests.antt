-- Tests of what a filter keeps, as one test of all; and such a test of a list that is looked through.
use Rattle.std.proofs.Common.{◌≡◌, ℕ, ◌+◌, ◌<◌, zero, suc, take, get_or, Bool, true, false, not, ◌&&◌, ◌||◌, cond, List, [], ◌∷◌, length, refl, sym, ap, ◌∙◌, map, arith, Option}
use Rattle.std.specs.Prelude.{filter, filter_map, option_to_list}
use Rattle.std.specs.List.{list_any, list_all, enumerate_from}
use Rattle.std.proofs.lemmas.Bool.{ne_eqb, and_parts, and_from}
use Rattle.cal_model.proofs.Words.ListTests.{any_filter, any_filter_map}
use Rattle.cal_model.specs.Words.Lists.{is_empty}

-- a test that passed at the front, and one that did not

pub any_met : {X : Type 0} (p : X → Bool) (x : X) (xs : List X) (all : Bool) → list_any p (x ∷ xs) ≡ all → p x ≡ true → true ≡ all
any_met p x xs all is met = ap (λ b. b || list_any p xs) (sym met) ∙ is

pub any_missed : {X : Type 0} (p : X → Bool) (x : X) (xs : List X) (all : Bool) → list_any p (x ∷ xs) ≡ all → p x ≡ false → list_any p xs ≡ all
any_missed p x xs all is missed = ap (λ b. b || list_any p xs) (sym missed) ∙ is

pub all_failed : {X : Type 0} (p : X → Bool) (x : X) (xs : List X) (all : Bool) → list_all p (x ∷ xs) ≡ all → p x ≡ false → false ≡ all
all_failed p x xs all is failed = ap (λ b. b && list_all p xs) (sym failed) ∙ is

pub all_passed : {X : Type 0} (p : X → Bool) (x : X) (xs : List X) (all : Bool) → list_all p (x ∷ xs) ≡ all → p x ≡ true → list_all p xs ≡ all
all_passed p x xs all is passed = ap (λ b. b && list_all p xs) (sym passed) ∙ is

-- a filter keeps nothing where no element passes
kept : {X : Type 0} (b : Bool) (x : X) (xs : List X) → is_empty (cond b (x ∷ xs) xs) ≡ (not b && is_empty xs)
kept true x xs = ne_eqb (length (x ∷ xs)) 0 (λ e. omega (arith, e))
kept false x xs = refl

neither : (a b : Bool) → (not a && not b) ≡ not (a || b)
neither true b = refl
neither false b = refl

pub is_empty_filter : {X : Type 0} (p : X → Bool) (xs : List X) → is_empty (filter p xs) ≡ not (list_any p xs)
is_empty_filter p [] = refl
is_empty_filter p (x ∷ xs) = kept (p x) x (filter p xs) ∙ (ap (λ b. not (p x) && b) (is_empty_filter p xs) ∙ neither (p x) (list_any p xs))

not_not : (b : Bool) → not (not b) ≡ b
not_not true = refl
not_not false = refl

pub some_in_filter : {X : Type 0} (p : X → Bool) (xs : List X) → not (is_empty (filter p xs)) ≡ list_any p xs
some_in_filter p xs = ap not (is_empty_filter p xs) ∙ not_not (list_any p xs)

-- a test of what was made of the elements that a filter keeps
pub any_filter_map_filter : {X Y : Type 0} (p : Y → Bool) (f : X → Option Y) (q : X → Bool) (xs : List X)
    → list_any p (filter_map f (filter q xs)) ≡ list_any (λ x. q x && list_any p (option_to_list (f x))) xs
any_filter_map_filter p f q xs = any_filter_map p f (filter q xs) ∙ any_filter (λ x. list_any p (option_to_list (f x))) q xs

-- the places of a numbered list do not count
pub any_enumerated : {X : Type 0} (p : X → Bool) (from : ℕ) (xs : List X) → list_any (λ (at : ℕ × X). p at.1) (enumerate_from from xs) ≡ list_any p xs
any_enumerated p from [] = refl
any_enumerated p from (x ∷ xs) = ap (λ t. p x || t) (any_enumerated p (from + 1) xs)

pub all_map : {X Y : Type 0} (p : Y → Bool) (f : X → Y) (xs : List X) → list_all p (map f xs) ≡ list_all (λ x. p (f x)) xs
all_map p f [] = refl
all_map p f (x ∷ xs) = ap (λ t. p (f x) && t) (all_map p f xs)

-- tests of all elements, one more at a time

pub all_more : {X : Type 0} (p : X → Bool) (xs : List X) (i : ℕ) (x : X) → list_all p (take i xs) ≡ true → i < length xs → x ≡ get_or xs i x → p x ≡ true → list_all p (take (i + 1) xs) ≡ true
all_more p [] i x all within here passes = absurd (omega (arith, within))
all_more p (y ∷ ys) zero x all within here passes =
    let one : 0 + 1 ≡ suc 0 = refl in
    ap (λ n. list_all p (take n (y ∷ ys))) one ∙ ap (λ b. b && true) (ap p (sym here) ∙ passes)
all_more p (y ∷ ys) (suc i) x all within here passes =
    let parts = and_parts (p y) (list_all p (take i ys)) all in
    let longer : suc i + 1 ≡ suc (i + 1) = omega arith in
    ap (λ n. list_all p (take n (y ∷ ys))) longer ∙ and_from (p y) (list_all p (take (i + 1) ys)) parts.0 (all_more p ys i x parts.1 (omega (arith, within)) here passes)

pub all_broken : {X : Type 0} (p : X → Bool) (xs : List X) (i : ℕ) (x : X) → i < length xs → x ≡ get_or xs i x → p x ≡ false → list_all p xs ≡ false
all_broken p [] i x within here fails = absurd (omega (arith, within))
all_broken p (y ∷ ys) zero x within here fails = ap (λ b. b && list_all p ys) (ap p (sym here) ∙ fails)
all_broken p (y ∷ ys) (suc i) x within here fails = and_false (p y) (all_broken p ys i x (omega (arith, within)) here fails)
  where
    and_false : (a : Bool) {b : Bool} → b ≡ false → (a && b) ≡ false
    and_false true e = e
    and_false false e = refl
