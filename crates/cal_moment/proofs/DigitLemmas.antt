-- Digits of numbers.
use Rattle.std.proofs.Common.{◌≡◌, ℕ, zero, suc, ◌+◌, ◌*◌, ◌/◌, ◌%◌, ◌^◌, ◌<◌, ◌≤◌, List, [], ◌∷◌, ◌++◌, length, refl, sym, ap, ◌∙◌, arith}
use Rattle.std.proofs.Math.Nat.{pow-suc, one-le-pow}
use Rattle.std.proofs.lemmas.Nat.{div-mul-add, mod-mul-add, div-add-mod', mod_below, div_below}
use Rattle.cal_moment.specs.Texts.{digits}
use Rattle.cal_moment.proofs.Fronts.{fronts_same}

pub length-digits : (count n : ℕ) → length (digits count n) ≡ count
length-digits zero n = refl
length-digits (suc count) n = ap suc (length-digits count (n % 10 ^ count))

-- one digit in front
pub digits_more : (count d n : ℕ) → n < 10 ^ count → digits (suc count) (d * 10 ^ count + n) ≡ (48 + d) ∷ digits count n
digits_more count d n h = rw (div-mul-add d (10 ^ count) n h, mod-mul-add d (10 ^ count) n h) refl

-- and its parts
pub number_parts : (count n : ℕ) → n / 10 ^ count * 10 ^ count + n % 10 ^ count ≡ n
number_parts count n = div-add-mod' n (10 ^ count)

pub tail_below : (count n : ℕ) → n % 10 ^ count < 10 ^ count
tail_below count n = mod_below n (10 ^ count) (one-le-pow count 10 (omega arith))

-- the first digit is a digit
pub digit_below : (count n : ℕ) → n < 10 ^ suc count → n / 10 ^ count < 10
digit_below count n h =
    div_below n (10 ^ count) 10 (one-le-pow count 10 (omega arith)) (omega (arith, pow-suc 10 count, h))

-- digits say which number they are of
pub digits_injective : (count m n : ℕ) → m < 10 ^ count → n < 10 ^ count → digits count m ≡ digits count n → m ≡ n
digits_injective zero m n hm hn e = omega (arith, hm, hn)
digits_injective (suc count) m n hm hn e =
    let first : 48 + m / 10 ^ count ≡ 48 + n / 10 ^ count = cc in
    let rest : digits count (m % 10 ^ count) ≡ digits count (n % 10 ^ count) = cc in
    let same = digits_injective count (m % 10 ^ count) (n % 10 ^ count) (tail_below count m) (tail_below count n) rest in
    let quotient : m / 10 ^ count ≡ n / 10 ^ count = omega (arith, first) in
    sym (number_parts count m) ∙ ap (λ q. q * 10 ^ count + m % 10 ^ count) quotient ∙ ap (λ r. n / 10 ^ count * 10 ^ count + r) same ∙ number_parts count n

-- so many digits at the front say which number it is and what follows
pub digits_then : (count m n : ℕ) (b d : List ℕ) → m < 10 ^ count → n < 10 ^ count → digits count m ++ b ≡ digits count n ++ d → (m ≡ n) × (b ≡ d)
digits_then count m n b d hm hn e =
    let same = fronts_same (digits count m) b (digits count n) d (length-digits count m ∙ sym (length-digits count n)) e in
    (digits_injective count m n hm hn same.0, same.1)

-- one digit more at the end
pub digits_push : (count d n : ℕ) → d ≤ 9 → n < 10 ^ count → digits (suc count) (10 * n + d) ≡ digits count n ++ ((48 + d) ∷ [])
digits_push zero d n digit h = let none : 10 * n + d ≡ d = omega (arith, h) in let first : d / 1 ≡ d = omega arith in rw (none, first) refl
digits_push (suc count) d n digit h =
    let unit = 10 ^ count in
    let q = n / unit in
    let r = n % unit in
    let parts = number_parts count n in
    let tail = tail_below count n in
    let power : 10 ^ suc count ≡ unit * 10 = pow-suc 10 count in
    let next : 10 * n + d ≡ q * 10 ^ suc count + (10 * r + d) = rw power (omega (arith, parts)) in
    let fits : 10 * r + d < 10 ^ suc count = omega (arith, tail, digit, power) in
    rw next (digits_more (suc count) q (10 * r + d) fits ∙ ap (λ t. (48 + q) ∷ t) (digits_push count d r digit tail))
