-- Numbers as the bits of a word.
use Rattle.std.proofs.Common.{◌≡◌, ◌≢◌, ℕ, ◌+◌, ◌-◌, ◌*◌, ◌/◌, ◌%◌, ◌^◌, ◌<◌, ◌≤◌, refl, sym, ap, ◌∙◌, arith, true, false, inl, inr, w64, ◌==◌, min}
use Rattle.std.specs.Prelude.{if◌then◌else◌, bit_or, bit_and}
use Rattle.std.specs.Int.{bit_at, trailing_zeros}
use Rattle.std.proofs.Math.Nat.{div-div-eq-div-mul, div-le_self}
use Rattle.std.proofs.lemmas.Nat.{pow-add}
use Rattle.std.proofs.lemmas.Bool.{cases_Bool, eqb-true}
use Rattle.std.proofs.lemmas.Nat.Bits.{bit_at-zero, bit_at-lt, bit_at_and, bit_at_ones, bit_at_set_same, bit_at_set_other, shr_and_one, bit_at-trailing_zeros}
use Rattle.rrule_step.specs.declared.set.Set.{Set}
use Rattle.rrule_step.specs.Sets.{has}
use Rattle.rrule_step.specs.Firsts.{NoneHolds}

-- a bit of a number that is shifted down
bit_at_shifted : (n f i : ℕ) → bit_at (n / 2 ^ f) i ≡ bit_at n (f + i)
bit_at_shifted n f i = ap (λ q. q % 2) (div-div-eq-div-mul n (2 ^ f) (2 ^ i) ∙ ap (λ p. n / p) (sym (pow-add 2 f i)))

none_from : (n f : ℕ) → n / 2 ^ f ≡ 0 → (i : ℕ) → f ≤ i → bit_at n i ≡ 0
none_from n f none i le =
    let at : f + (i - f) ≡ i = omega arith in
    let zero : bit_at (n / 2 ^ f) (i - f) ≡ 0 = rw none (bit_at-zero (i - f)) in
    rw at at (sym (bit_at_shifted n f (i - f)) ∙ zero)

quotient_below : (n k b : ℕ) → n < b → n / k < b
quotient_below n k b lt = let le = div-le_self n k in omega (arith, le, lt)

is_one : (n : ℕ) → n ≡ 1 → (n == 1) ≡ true
is_one n e = rw e refl

is_zero : (n : ℕ) → n ≡ 0 → (n == 1) ≡ false
is_zero n e = rw e refl

-- what the words of a set have
pub has-none : (i : ℕ) → has (record { 0 = 0 }) i ≡ false
unfolding has
has-none i = is_zero (bit_at 0 i) (bit_at-zero i)

pub has-all : (i : ℕ) → i < 64 → has (record { 0 = 18446744073709551615 }) i ≡ true
unfolding has
has-all i lt = is_one (bit_at 18446744073709551615 i) (bit_at_ones 64 i lt)

pub has-with : (set : Set) (n i : ℕ) → n < 64 → has (record { 0 = bit_or set.0 (1 * 2 ^ n % 18446744073709551616) }) i ≡ (if i == n then true else has set i)
unfolding has
has-with set n i lt = elim (cases_Bool (i == n)) [
  | inl w ↦ (let same = eqb-true i n w in rw w (is_one (bit_at (bit_or set.0 (1 * 2 ^ n % 18446744073709551616)) i) (let there = bit_at_set_same w64 set.0 n lt in rw same there)))
  | inr w ↦ rw w (ap (λ b. b == 1) (bit_at_set_other w64 set.0 n lt i (λ e. let bad : (i == n) ≡ true = grind (arith, e) in absurd cc)))
]

-- a word that is 0 has none
pub has-empty : (set : Set) (i : ℕ) → set.0 ≡ 0 → has set i ≡ false
unfolding has
has-empty set i none = is_zero (bit_at set.0 i) (ap (λ word. bit_at word i) none ∙ bit_at-zero i)

-- a word that is shifted down to a bit
pub has-bit : (set : Set) (i : ℕ) → (bit_and (set.0 / 2 ^ i) 1 == 1) ≡ has set i
unfolding has
has-bit set i = ap (λ bit. bit == 1) (shr_and_one set.0 i)

one_of_both : (a b : ℕ) → a < 2 → b < 2 → (min a b == 1) ≡ (if a == 1 then b == 1 else false)
one_of_both a b x y = elim (cases_Bool (a == 1)) [
  | inl w ↦ (let one = eqb-true a 1 w in let is : min a b ≡ b = omega (arith, one, y) in rw (w, is) refl)
  | inr w ↦ (let zero : a ≡ 0 = (let no : a ≢ 1 = (λ e. let bad : (a == 1) ≡ true = rw e refl in absurd cc) in omega (arith, no, x)) in let is : min a b ≡ 0 = omega (arith, zero) in rw (w, is) refl)
]

pub has-both : (a b : Set) (i : ℕ) → has (record { 0 = bit_and a.0 b.0 }) i ≡ (if has a i then has b i else false)
unfolding has
has-both a b i = ap (λ n. n == 1) (bit_at_and a.0 b.0 i) ∙ one_of_both (bit_at a.0 i) (bit_at b.0 i) (bit_at-lt a.0 i) (bit_at-lt b.0 i)

-- where nothing is left of a word that is shifted down, and where its lowest bit is
pub none_left : (set : Set) (from end : ℕ) → set.0 / 2 ^ from ≡ 0 → NoneHolds (has set) from end
unfolding has
none_left set from end none = record { each = λ i low high. is_zero (bit_at set.0 i) (none_from set.0 from none i low) }

module _ (set : Set) (from : ℕ) (small : set.0 < 18446744073709551616) (some : 0 < set.0 / 2 ^ from) where
  lowest : (trailing_zeros w64 (set.0 / 2 ^ from) < 64) × (bit_at (set.0 / 2 ^ from) (trailing_zeros w64 (set.0 / 2 ^ from)) ≡ 1) × ((i : ℕ) → i < trailing_zeros w64 (set.0 / 2 ^ from) → bit_at (set.0 / 2 ^ from) i ≡ 0)
  lowest = bit_at-trailing_zeros w64 (set.0 / 2 ^ from) some (quotient_below set.0 (2 ^ from) 18446744073709551616 small)

  pub none_below : (end : ℕ) → end ≤ from + trailing_zeros w64 (set.0 / 2 ^ from) → NoneHolds (has set) from end
  unfolding has
  none_below end le = record {
    each = λ i low high.
        let at : from + (i - from) ≡ i = omega arith in
        let zero = sym (bit_at_shifted set.0 from (i - from)) ∙ lowest.2 (i - from) (omega (arith, high, low, le)) in
        is_zero (bit_at set.0 i) (rw at at zero);
  }

  pub lowest_is : has set (from + trailing_zeros w64 (set.0 / 2 ^ from)) ≡ true
  unfolding has
  lowest_is = is_one (bit_at set.0 (from + trailing_zeros w64 (set.0 / 2 ^ from))) (sym (bit_at_shifted set.0 from (trailing_zeros w64 (set.0 / 2 ^ from))) ∙ lowest.1)
