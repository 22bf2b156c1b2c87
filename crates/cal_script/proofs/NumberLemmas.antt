-- The front of a number's decimal spelling, and the number of such a text.
use Rattle.std.proofs.Common.{◌≡◌, ℕ, zero, suc, ◌<◌, ◌^◌, List, slice_index, refl, sym, ap, subst, ◌∙◌, arith}
use Rattle.std.proofs.lemmas.Fmt.{decimal_is_IsNumeral, decimal_nonempty, first_decimal, decimal-digits_value, IsAscii-decimal}
use Rattle.std.proofs.lemmas.Grind.{common_steps}
use Rattle.std.proofs.lemmas.Str.{IsUtf8-from_ascii}
use Rattle.std.proofs.lemmas.Str.Parse.{digit_at, IsNumeralModel}
use Rattle.std.specs.Fmt.{decimal, digits}
use Rattle.std.specs.Int.{IsInRange}
use Rattle.std.specs.Str.Parse.{AllDigits, IsNumeral, digits_value, without_leading_plus}
use Rattle.std.specs.Str.{IsUtf8}
use Rattle.cal_script.specs.FrameHeads.{SpellsNoNumber, IsNumberFront}

zero_front : IsNumberFront (decimal 0)
unfolding digits
zero_front = record { some = omega arith; from = omega arith; to = omega arith; zero_alone = λ e. refl }

decimal_front : (n : ℕ) → n < 2 ^ 64 → IsNumberFront (decimal n)
decimal_front zero h = zero_front
decimal_front (suc n) h =
    let range : IsInRange 48 57 (slice_index (decimal (suc n)) 0) = digit_at (decimal (suc n)) 0 (decimal_is_IsNumeral (suc n) h).0.1 (decimal_is_IsNumeral (suc n) h).0.0 in
    record {
      some = decimal_nonempty (suc n) h;
      from = range.0;
      to = range.1;
      zero_alone = λ e. absurd (omega (arith, first_decimal (suc n) (omega arith) h, e));
    }

pub number_front : (text : List ℕ) (n : ℕ) → n < 2 ^ 64 → text ≡ decimal n → IsNumberFront text
number_front text n h e = subst IsNumberFront (sym e) (decimal_front n h)

own : IsNumeralModel (AllDigits 10) (digits_value 10)
own = record { to = λ ds h. h; from = λ ds h. h; same = λ ds h. refl }

-- a text that does not begin with a plus is parsed as it stands
without_plus : (text : List ℕ) → IsNumberFront text → without_leading_plus text ≡ text
without_plus text front = grind (arith, common_steps)

-- a text that parses is the spelling of its number, where it begins as one
pub parsed_decimal : (text : List ℕ) (n : ℕ) → IsNumberFront text
    → (IsNumeral 10 (without_leading_plus text) × (digits_value 10 (without_leading_plus text) < 2 ^ 64)) × (n ≡ digits_value 10 (without_leading_plus text))
    → text ≡ decimal n
parsed_decimal text n front p =
    let same : without_leading_plus text ≡ text = without_plus text front in
    let numeral : IsNumeral 10 text = subst (IsNumeral 10) same p.0.0 in
    let value : n ≡ digits_value 10 text = p.1 ∙ ap (digits_value 10) same in
    let small : digits_value 10 text < 2 ^ 64 = subst (λ t. digits_value 10 t < 2 ^ 64) same p.0.1 in
    sym (decimal-digits_value own text numeral.1 numeral.0 front.zero_alone small) ∙ ap decimal (sym value)

-- and one that does not parse spells no number
pub parses_decimal : (text : List ℕ)
    → ¬ (IsNumeral 10 (without_leading_plus text) × (digits_value 10 (without_leading_plus text) < 2 ^ 64)) → SpellsNoNumber text
parses_decimal text none n h e =
    let plain : without_leading_plus text ≡ text = without_plus text (number_front text n h e) in
    let numeral = decimal_is_IsNumeral n h in
    let P : List ℕ → Type 0 = λ t. IsNumeral 10 t × (digits_value 10 t < 2 ^ 64) in
    none (subst P (sym (plain ∙ e)) (numeral.0, omega (arith, numeral.1)))

pub utf8_decimal : (text : List ℕ) → ¬ IsUtf8 text → SpellsNoNumber text
utf8_decimal text none n h e = none (subst IsUtf8 (sym e) (IsUtf8-from_ascii (decimal n) (IsAscii-decimal n h)))
