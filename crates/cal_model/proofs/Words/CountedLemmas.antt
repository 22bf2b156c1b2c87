-- Filters over numbers in a row.
use Rattle.std.proofs.Common.{◌≡◌, ℕ, zero, suc, ◌+◌, ◌-◌, ◌<◌, ◌≤◌, [], ◌∷◌, ◌++◌, refl, ap, arith, Bool, true, false}
use Rattle.std.specs.Prelude.{filter}
use Rattle.std.proofs.lemmas.List.Elements.{filter-append}
use Rattle.cal_model.specs.Words.Lists.{counted_from, numbers_between}

counted_cut : (first m n k : ℕ) → k ≡ m + n → counted_from first k ≡ counted_from first m ++ counted_from (first + m) n
unfolding counted_from
counted_cut first zero n k e =
    let same : k ≡ n = omega arith in
    let at : first + 0 ≡ first = omega arith in
    rw (same, at) refl
counted_cut first (suc m) n zero e = absurd (omega arith)
counted_cut first (suc m) n (suc k) e =
    let at : first + 1 + m ≡ first + suc m = omega arith in
    ap (λ xs. first ∷ xs) (rw at at (counted_cut (first + 1) m n k (omega arith)))

-- numbers in a row, cut in two
pub numbers_between-cut : (a b c : ℕ) → a ≤ b → b ≤ c → numbers_between a c ≡ numbers_between a b ++ numbers_between b c
numbers_between-cut a b c h k =
    let at : a + (b - a) ≡ b = omega arith in
    rw at at (counted_cut a (b - a) (c - b) (c - a) (omega arith))

counted_none : (p : ℕ → Bool) (first n : ℕ) → ((m : ℕ) → first ≤ m → m < first + n → p m ≡ false) → filter p (counted_from first n) ≡ []
unfolding counted_from
counted_none p first zero h = refl
counted_none p first (suc n) h =
    let here : p first ≡ false = h first (omega arith) (omega arith) in
    rw here (counted_none p (first + 1) n (λ m low high. h m (omega arith) (omega arith)))

-- where none passes
pub filter-none : (p : ℕ → Bool) (a b : ℕ) → ((m : ℕ) → a ≤ m → m < b → p m ≡ false) → filter p (numbers_between a b) ≡ []
filter-none p a b h = counted_none p a (b - a) (λ m low high. h m low (omega arith))

counted_first : (p : ℕ → Bool) (first n : ℕ) → p first ≡ true → filter p (counted_from first (suc n)) ≡ first ∷ filter p (counted_from (first + 1) n)
unfolding counted_from
counted_first p first n h = rw h refl

-- where one is the first that passes
pub filter-next : (p : ℕ → Bool) (a m b : ℕ) → a ≤ m → m < b → p m ≡ true → ((k : ℕ) → a ≤ k → k < m → p k ≡ false) →
    filter p (numbers_between a b) ≡ m ∷ filter p (numbers_between (m + 1) b)
filter-next p a m b h k here before =
    let some : b - m ≡ suc (b - (m + 1)) = omega arith in
    let rest = counted_first p m (b - (m + 1)) here in
    let cut = numbers_between-cut a m b h (omega arith) in
    rw (cut, filter-append, filter-none p a m before, some) rest
