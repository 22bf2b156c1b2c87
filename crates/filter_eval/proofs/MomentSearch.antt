-- Moments in rising order that are searched for one that passes a test: what is skipped, what is left, and what they say in the end.
use Rattle.std.proofs.Common.{◌≡◌, ℕ, zero, suc, ◌+◌, ◌<◌, ◌≤◌, Bool, true, false, ◌||◌, List, [], ◌∷◌, length, get_or, take, drop, refl, sym, ap, subst, ◌∙◌, arith}
use Rattle.std.specs.Prelude.{ℤ, ◌≤ℤ◌, ◌<ℤ◌, int_lt, All}
use Rattle.std.specs.Cmp.{int_cmp_total}
use Rattle.std.specs.List.{AllWithin, list_any}
use Rattle.std.specs.List.Sorted.{IsSorted, IsPartitionedBy}
use Rattle.std.specs.Ordering.{int_cmp, is_lt}
use Rattle.std.proofs.lemmas.Int.{ints}
use Rattle.std.proofs.lemmas.List.{get_or-take, length-take}
use Rattle.std.proofs.lemmas.List.Sorted.{ranks_by, sorted_far}
use Rattle.overlap_rules.specs.NextMoments.{NonePasses, IsFirstToPass}

-- the order

not_lower : (x y : ℤ) → is_lt (int_cmp y x) ≡ false → x ≤ℤ y
not_lower x y is = grind (arith, ints)

rises_far : (xs : List ℤ) → IsSorted int_cmp xs → (i j : ℕ) (d : ℤ) → i ≤ j → j < length xs → get_or xs i d ≤ℤ get_or xs j d
rises_far xs up i j d low high = not_lower (get_or xs i d) (get_or xs j d) (sorted_far (λ (x y : ℤ). is_lt (int_cmp x y)) (ranks_by int_cmp_total (λ (x : ℤ). x)) xs up i j d low high)

-- the first is the least
first_least : (moment : ℤ) (behind : List ℤ) → IsSorted int_cmp (moment ∷ behind) → (k : ℕ) (d : ℤ) → k < length behind → moment ≤ℤ get_or behind k d
first_least moment behind up k d within = rises_far (moment ∷ behind) up 0 (suc k) d (omega arith) (omega (arith, within))

before_below : (x y upper : ℤ) → x ≤ℤ y → int_lt y upper ≡ true → int_lt x upper ≡ true
before_below x y upper low is = grind (arith, ints)

pub is_partitioned : (xs : List ℤ) (upper : ℤ) → IsSorted int_cmp xs → IsPartitionedBy (λ (x : ℤ). int_lt x upper) xs
is_partitioned xs upper up i j d low high is = before_below (get_or xs i d) (get_or xs j d) upper (rises_far xs up i j d low high) is

pub is_before : (x upper : ℤ) → int_lt x upper ≡ true → x <ℤ upper
is_before x upper is = grind (arith, ints)

tail_in_order : (x : ℤ) (xs : List ℤ) → IsSorted int_cmp (x ∷ xs) → IsSorted int_cmp xs
tail_in_order x xs up = λ k d low high.
    let next : suc k + 1 ≡ suc (k + 1) = omega arith in
    subst (λ (j : ℕ). is_lt (int_cmp (get_or (x ∷ xs) j d) (get_or xs k d)) ≡ false) next (up (suc k) d (omega arith) (omega (arith, high)))

pub left_in_order : (xs : List ℤ) (n : ℕ) → IsSorted int_cmp xs → IsSorted int_cmp (drop n xs)
left_in_order xs zero up = up
left_in_order [] (suc n) up = up
left_in_order (x ∷ xs) (suc n) up = left_in_order xs n (tail_in_order x xs up)

pub rest_in_order : (x : ℤ) (xs : List ℤ) (n : ℕ) → IsSorted int_cmp (x ∷ xs) → IsSorted int_cmp (drop n xs)
rest_in_order x xs n up = left_in_order xs n (tail_in_order x xs up)

pub behind_in_order : (x : ℤ) (xs : List ℤ) → IsSorted int_cmp (x ∷ xs) → IsSorted int_cmp xs
behind_in_order x xs up = tail_in_order x xs up

pub front_in_order : (xs : List ℤ) (n : ℕ) → IsSorted int_cmp xs → IsSorted int_cmp (take n xs)
front_in_order xs n up = λ k d low high.
    let all = length-take n xs in
    let next : k + 1 < n = omega (arith, all, high) in
    let here : k < n = omega arith in
    ap (λ (z : ℤ). is_lt (int_cmp z (get_or (take n xs) k d))) (get_or-take n xs (k + 1) d next)
    ∙ ap (λ (z : ℤ). is_lt (int_cmp (get_or xs (k + 1) d) z)) (get_or-take n xs k d here)
    ∙ up k d low (omega (arith, all, high))

-- what holds of the first of a front holds of the first of all
pub within_front : (P : ℤ → Type 0) (xs : List ℤ) (n count : ℕ) → count ≤ length (take n xs) → AllWithin P (take n xs) 0 count → AllWithin P xs 0 count
within_front P xs n count few all = λ k d low high.
    let whole = length-take n xs in
    let here : k < n = omega (arith, whole, few, high) in
    subst P (get_or-take n xs k d here) (all k d low high)

-- the test

any_left : (test : ℤ → Bool) (xs : List ℤ) (n : ℕ) → n ≤ length xs → AllWithin (λ (x : ℤ). test x ≡ false) xs 0 n → list_any test (drop n xs) ≡ list_any test xs
any_left test xs zero few none = refl
any_left test [] (suc n) few none = refl
any_left test (x ∷ xs) (suc n) few none =
    any_left test xs n (omega (arith, few)) (λ k d low high. none (suc k) d (omega arith) (omega (arith, high)))
    ∙ sym (ap (λ (b : Bool). b || list_any test xs) (none 0 x (omega arith) (omega arith)))

any_none : (test : ℤ → Bool) (xs : List ℤ) → All (λ (x : ℤ). test x ≡ false) xs → list_any test xs ≡ false
any_none test [] none = refl
any_none test (x ∷ xs) none =
    ap (λ (b : Bool). b || list_any test xs) (none 0 x (omega arith)) ∙ any_none test xs (λ k d within. none (suc k) d (omega (arith, within)))

itself : (x : ℤ) → x ≤ℤ x
itself x = omega (arith, ints)

-- those before the next moment that passes are skipped
pub goes_on : (test : ℤ → Bool) (moment next : ℤ) (behind : List ℤ) (count : ℕ) → IsSorted int_cmp (moment ∷ behind) → IsFirstToPass test moment next → moment <ℤ next
    → count ≤ length behind → AllWithin (λ (x : ℤ). x <ℤ next) behind 0 count → list_any test (drop count behind) ≡ list_any test (moment ∷ behind)
goes_on test moment next behind count up first later few before =
    any_left test behind count few (λ k d low high. first.none (get_or behind k d) (first_least moment behind up k d (omega (arith, high, few))) (before k d low high))
    ∙ sym (ap (λ (b : Bool). b || list_any test behind) (first.none moment (itself moment) later))

-- there is no such moment
pub ends_without : (test : ℤ → Bool) (moment : ℤ) (behind : List ℤ) → IsSorted int_cmp (moment ∷ behind) → NonePasses test moment → list_any test (moment ∷ behind) ≡ false
ends_without test moment behind up none =
    ap (λ (b : Bool). b || list_any test behind) (none moment (itself moment))
    ∙ any_none test behind (λ k d within. none (get_or behind k d) (first_least moment behind up k d within))

-- the first one is it
pub ends_with : (test : ℤ → Bool) (moment next : ℤ) (behind : List ℤ) → IsFirstToPass test moment next → next ≤ℤ moment → list_any test (moment ∷ behind) ≡ true
ends_with test moment next behind first here =
    let same : next ≡ moment = omega (arith, ints, first.ahead, here) in
    ap (λ (b : Bool). b || list_any test behind) (subst (λ (x : ℤ). test x ≡ true) same first.passes)
