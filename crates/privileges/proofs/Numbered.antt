-- Numbered lists: the numbers of the elements that pass a test, and who is among them.
use Rattle.std.proofs.Common.{◌≡◌, ℕ, zero, suc, ◌+◌, ◌<◌, Bool, true, false, ◌&&◌, ◌||◌, cond, ◌==◌, List, [], ◌∷◌, ◌++◌, map, refl, sym, ap, ◌∙◌, arith}
use Rattle.std.specs.Prelude.{filter, option_to_list, slice_get}
use Rattle.std.specs.List.{list_any, enumerate_from}
use Rattle.std.proofs.lemmas.Bool.{ne_eqb, eq-eqb}

-- the numbers of those that pass, in order, where the first has a number
abbrev pub numbers_from : {X : Type 0} → (X → Bool) → ℕ → List X → List ℕ
numbers_from {X} test n xs = map (λ (p : ℕ × X). p.0) (filter (λ (p : ℕ × X). test p.1) (enumerate_from n xs))

-- the element at a place passes, if it is there
abbrev pub passes_at : {X : Type 0} → (X → Bool) → List X → ℕ → Bool
passes_at test xs k = list_any test (option_to_list (slice_get xs k))

or_none : (b : Bool) → (b || false) ≡ b
or_none true = refl
or_none false = refl

abbrev has : ℕ → List ℕ → Bool
has m ns = list_any (λ n. n == m) ns

-- the first element and the others
has-front : {X : Type 0} (m n : ℕ) (x : X) (rest : List (ℕ × X)) (b : Bool)
    → has m (map (λ (p : ℕ × X). p.0) (cond b ((n, x) ∷ rest) rest)) ≡ (b && (n == m) || has m (map (λ (p : ℕ × X). p.0) rest))
has-front m n x rest true = refl
has-front m n x rest false = refl

has-step : {X : Type 0} (test : X → Bool) (m n : ℕ) (x : X) (xs : List X) → has m (numbers_from test n (x ∷ xs)) ≡ (test x && (n == m) || has m (numbers_from test (n + 1) xs))
has-step {X} test m n x xs = has-front m n x (filter (λ (p : ℕ × X). test p.1) (enumerate_from (n + 1) xs)) (test x)

and_none : (b : Bool) → (b && false) ≡ false
and_none true = refl
and_none false = refl

and_all : (b : Bool) → (b && true) ≡ b
and_all true = refl
and_all false = refl

-- none of the numbers lies below the first
numbers-past : {X : Type 0} (test : X → Bool) (n m : ℕ) (xs : List X) → m < n → has m (numbers_from test n xs) ≡ false
numbers-past test n m [] below = refl
numbers-past test n m (x ∷ xs) below =
    has-step test m n x xs
    ∙ ap (λ b. test x && b || has m (numbers_from test (n + 1) xs)) (ne_eqb n m (λ e. omega (arith, below, e)))
    ∙ ap (λ b. b || has m (numbers_from test (n + 1) xs)) (and_none (test x))
    ∙ numbers-past test (n + 1) m xs (omega (arith, below))

-- a number is among them where the element of that number passes
pub has-numbers : {X : Type 0} (test : X → Bool) (n m : ℕ) (xs : List X) (k : ℕ) → m ≡ n + k → has m (numbers_from test n xs) ≡ passes_at test xs k
has-numbers test n m [] k is = refl
has-numbers test n m (x ∷ xs) zero is =
    has-step test m n x xs
    ∙ ap (λ b. test x && b || has m (numbers_from test (n + 1) xs)) (eq-eqb n m (omega (arith, is)))
    ∙ (λ i. and_all (test x) i || numbers-past test (n + 1) m xs (omega (arith, is)) i)
has-numbers test n m (x ∷ xs) (suc k) is =
    has-step test m n x xs
    ∙ ap (λ b. test x && b || has m (numbers_from test (n + 1) xs)) (ne_eqb n m (λ e. omega (arith, is, e)))
    ∙ ap (λ b. b || has m (numbers_from test (n + 1) xs)) (and_none (test x))
    ∙ has-numbers test (n + 1) m xs k (omega (arith, is))

-- the numbers of the first element and of the others
front_kept : {X : Type 0} (b : Bool) (n : ℕ) (x : X) (rest : List (ℕ × X)) (all : List ℕ) (c : Bool) → b ≡ c → map (λ (p : ℕ × X). p.0) rest ≡ all
    → map (λ (p : ℕ × X). p.0) (cond b ((n, x) ∷ rest) rest) ≡ cond c (n ∷ all) all
front_kept true n x rest all c here e = (λ i. cond true (n ∷ e i) (e i)) ∙ ap (λ d. cond d (n ∷ all) all) here
front_kept false n x rest all c here e = (λ i. cond false (n ∷ e i) (e i)) ∙ ap (λ d. cond d (n ∷ all) all) here

-- Two lists that pass two tests at the same places have the same numbers.
none_passes : {X : Type 0} (test : X → Bool) (n : ℕ) (xs : List X) → ((k : ℕ) → passes_at test xs k ≡ false) → numbers_from test n xs ≡ []
none_passes test n [] none = refl
none_passes {X} test n (x ∷ xs) none =
    front_kept (test x) n x (filter (λ (p : ℕ × X). test p.1) (enumerate_from (n + 1) xs)) [] false (sym (or_none (test x)) ∙ none 0)
    (none_passes test (n + 1) xs (λ k. none (suc k)))

pub numbers-same : {X Y : Type 0} (test : X → Bool) (other : Y → Bool) (n : ℕ) (xs : List X) (ys : List Y) → ((k : ℕ) → passes_at test xs k ≡ passes_at other ys k)
    → numbers_from test n xs ≡ numbers_from other n ys
numbers-same test other n [] ys same = sym (none_passes other n ys (λ k. sym (same k)))
numbers-same test other n (x ∷ xs) [] same = none_passes test n (x ∷ xs) same
numbers-same {X} {Y} test other n (x ∷ xs) (y ∷ ys) same =
    front_kept (test x) n x (filter (λ (p : ℕ × X). test p.1) (enumerate_from (n + 1) xs)) (numbers_from other (n + 1) ys) (other y)
    (sym (or_none (test x)) ∙ same 0 ∙ or_none (other y))
    (numbers-same test other (n + 1) xs ys (λ k. same (suc k)))
    ∙ sym (front_kept (other y) n y (filter (λ (p : ℕ × Y). other p.1) (enumerate_from (n + 1) ys)) (numbers_from other (n + 1) ys) (other y) refl refl)

-- with one element more, which fails
pub numbers-push : {X : Type 0} (test : X → Bool) (n : ℕ) (xs : List X) (x : X) → test x ≡ false → numbers_from test n (xs ++ x ∷ []) ≡ numbers_from test n xs
numbers-push test n [] x fails = front_kept (test x) n x [] [] false fails refl
numbers-push {X} test n (y ∷ xs) x fails =
    front_kept (test y) n y (filter (λ (p : ℕ × X). test p.1) (enumerate_from (n + 1) (xs ++ x ∷ []))) (numbers_from test (n + 1) xs) (test y) refl
    (numbers-push test (n + 1) xs x fails)
    ∙ sym (front_kept (test y) n y (filter (λ (p : ℕ × X). test p.1) (enumerate_from (n + 1) xs)) (numbers_from test (n + 1) xs) (test y) refl refl)
