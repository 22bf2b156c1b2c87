-- Numbers of one to nine digits, octet by octet.
use Rattle.std.proofs.Common.{◌≡◌, ℕ, zero, suc, ◌+◌, ◌*◌, ◌/◌, ◌%◌, ◌^◌, ◌<◌, ◌≤◌, List, [], ◌∷◌, ◌++◌, length, get_or, take, drop, Some, None, option_map, sym, ap, ap₂, ◌∙◌, arith, inl, inr, add-one}
use Rattle.std.proofs.Math.Seq.{take-suc, take-length}
use Rattle.std.proofs.Math.Nat.{pow-suc, pow-le-pow_right}
use Rattle.cal_moment.specs.LengthTexts.{SpellsCount}
use Rattle.cal_moment.specs.Texts.{digits, signed}
use Rattle.cal_moment.proofs.DigitLemmas.{digits_push, digit_below, tail_below}
use Rattle.cal_moment.proofs.CountLemmas.{count_length}
use Rattle.cal_model.specs.Values.ValueTexts.{count_of, integer_of, is_negative, sign_length}
use Rattle.ical_values.specs.LineTexts.{IsDigitOctet}
use Rattle.cal_model.proofs.Values.CutLemmas.{cases_Option, count_of-SpellsCount, SpellsCount-count_of}
use Rattle.cal_moment.proofs.DigitLemmas.{length-digits}

-- each octet of a number is one
pub digit_at : (count n place : ℕ) → n < 10 ^ count → place < count → IsDigitOctet (get_or (digits count n) place 0)
digit_at zero n place fits within = absurd (omega (arith, within))
digit_at (suc count) n zero fits within =
    let below : n / 10 ^ count < 10 = digit_below count n fits in
    record { low = omega arith; high = omega (arith, below) }
digit_at (suc count) n (suc place) fits within =
    digit_at count (n % 10 ^ count) place (tail_below count n) (omega (arith, within))

-- a text with another octet is no number
pub no_count_at : (text : List ℕ) (place : ℕ) → place < length text → (IsDigitOctet (get_or text place 0) → ⊥) → count_of text ≡ None
no_count_at text place within other =
    no_count text (λ n spells.
    other (rw spells.spelled (digit_at spells.width n place spells.fits (omega (arith, within, ap length spells.spelled, length-digits spells.width n)))))
  where
    no_count : (text : List ℕ) → ((n : ℕ) → SpellsCount text n → ⊥) → count_of text ≡ None
    no_count text not =
        elim (cases_Option (count_of text)) [
          | inl none ↦ none
          | inr some ↦ absurd (not some.0 (SpellsCount-count_of text some.0 some.1))
        ]

pub no_count_of_length : (text : List ℕ) → ((1 ≤ length text) → length text ≤ 9 → ⊥) → count_of text ≡ None
no_count_of_length text not =
    elim (cases_Option (count_of text)) [
      | inl none ↦ none
      | inr some ↦ (let lengths = count_length text some.0 (SpellsCount-count_of text some.0 some.1) in absurd (not lengths.0 lengths.1))
    ]

-- one more digit of a number that fits in eight
pub digit_fits : (place n d : ℕ) → place ≤ 8 → n < 10 ^ place → d ≤ 9 → 10 * n + d < 1_000_000_000
digit_fits place n d le fits most =
    let bound : 10 ^ place ≤ 10 ^ 8 = pow-le-pow_right (omega arith) le in
    omega (arith, bound, fits, most)

pub next_digit : (place n d : ℕ) → n < 10 ^ place → d ≤ 9 → 10 * n + d < 10 ^ (place + 1)
next_digit place n d fits most =
    let power : 10 ^ (place + 1) ≡ 10 ^ place * 10 = ap (λ k. 10 ^ k) (add-one place) ∙ pow-suc 10 place in
    omega (arith, power, fits, most)

pub more_digits : (text : List ℕ) (place n d : ℕ) → place < length text → n < 10 ^ place → d ≤ 9 → take place text ≡ digits place n → get_or text place 0 ≡ 48 + d → take (place + 1) text ≡ digits (place + 1) (10 * n + d)
more_digits text place n d within fits most spelled octet =
    ap (λ k. take k text) (add-one place) ∙ (take-suc text place 0 within ∙ (ap₂ (λ a b. a ++ (b ∷ [])) spelled octet ∙ sym (ap (λ k. digits k (10 * n + d)) (add-one place) ∙ digits_push place d n most fits)))

-- all octets are digits of the number
pub count_whole : (text : List ℕ) (place n : ℕ) → 1 ≤ length text → length text ≤ 9 → place ≡ length text → take place text ≡ digits place n → n < 10 ^ place → count_of text ≡ Some n
count_whole text place n some most end spelled fits =
    count_of-SpellsCount text n (record {
      width = place;
      some = omega (arith, end, some);
      most = omega (arith, end, most);
      fits = fits;
      spelled = sym (take-length text) ∙ (ap (λ k. take k text) (sym end) ∙ spelled);
    })

-- Integers

pub integer_signed : (text : List ℕ) (n : ℕ) → count_of (drop (sign_length text) text) ≡ Some n → integer_of text ≡ Some (signed (is_negative text) n)
unfolding integer_of
integer_signed text n is = ap (option_map (signed (is_negative text))) is

pub integer_none : (text : List ℕ) → count_of (drop (sign_length text) text) ≡ None → integer_of text ≡ None
unfolding integer_of
integer_none text none = ap (option_map (signed (is_negative text))) none
