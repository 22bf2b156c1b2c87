-- The number that a text says, by a parse of it.
use Rattle.std.proofs.Common.{◌≡◌, ◌∙◌, ℕ, ◌≤◌, ◌<◌, ◌^◌, List, Bool, true, false, refl, ap, sym, arith}
use Rattle.std.specs.Prelude.{if◌then◌else◌}
use Rattle.std.specs.Str.Parse.{IsNumeral, digits_value, without_leading_plus}
use Rattle.clap.specs.Words.{IsUnsignedIn}
use Rattle.clap.specs.ValueTests.{is_unsigned_in}
use Rattle.clap.proofs.ValueTestLemmas.{accepts-Accepts, Accepts-accepts}
use Rattle.clap.specs.declared.builder.value_parser.ValueParser.TheVariants.{Unsigned}
use Rattle.command_words.specs.Options.{number_said}

said_within : (low high other : ℕ) (text : List ℕ) → IsUnsignedIn low high text → number_said low high other text ≡ digits_value 10 (without_leading_plus text)
said_within low high other text h =
    ap (λ (test : Bool). if test then digits_value 10 (without_leading_plus text) else other) (Accepts-accepts false (Unsigned low high) text h)

said_outside : (low high other : ℕ) (text : List ℕ) → (IsUnsignedIn low high text → ⊥) → number_said low high other text ≡ other
said_outside low high other text none = by_test (is_unsigned_in low high text) refl
  where
    by_test : (test : Bool) → is_unsigned_in low high text ≡ test → (if test then digits_value 10 (without_leading_plus text) else other) ≡ other
    by_test true is = absurd (none (accepts-Accepts false (Unsigned low high) text is))
    by_test false is = refl

-- a number that was read of it, and lies between the bounds
pub said_number : (low high other n : ℕ) (text : List ℕ) → (IsNumeral 10 (without_leading_plus text) × (digits_value 10 (without_leading_plus text) < 2 ^ 64)) × (n ≡ digits_value 10 (without_leading_plus text)) → low ≤ n → n ≤ high → n ≡ number_said low high other text
said_number low high other n text (numeral, is) least greatest =
    is ∙ sym (said_within low high other text (numeral.0, numeral.1, omega (arith, is, least), omega (arith, is, greatest)))

-- it is no number
pub said_none : (low high other : ℕ) (text : List ℕ) → (IsNumeral 10 (without_leading_plus text) × (digits_value 10 (without_leading_plus text) < 2 ^ 64) → ⊥) → other ≡ number_said low high other text
said_none low high other text no_number = sym (said_outside low high other text (λ h. no_number (h.0, h.1)))
