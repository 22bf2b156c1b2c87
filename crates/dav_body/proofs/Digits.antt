-- Numbers of digits, as far as they can be those of characters.
use Rattle.std.proofs.Common.{◌≡◌, ℕ, ◌+◌, ◌*◌, ◌<◌, ◌≤◌, List, [], ◌∷◌, length, map, Option, Some, None, refl, sym, ap, ◌∙◌, arith, inl, inr}
use Rattle.std.specs.Prelude.{fold, option_map}
use Rattle.dav_body.specs.Numbers.{capped, IsBase}
use Rattle.cal_base.specs.Lines.ContentLines.{every}
use Rattle.cal_base.specs.Xml.XmlMarkup.{digit_value, number_of_digits}

-- what the digits to come make of a number
abbrev pub digits_after : ℕ → ℕ → List ℕ → Option ℕ
digits_after base number text = option_map (λ (digits : List ℕ). capped (fold (λ number digit. number * base + digit) number digits)) (every (map (digit_value base) text))

decimal_step : (number digit : ℕ) → capped (capped number * 10 + digit) ≡ capped (number * 10 + digit)
decimal_step number digit = omega arith

hexadecimal_step : (number digit : ℕ) → capped (capped number * 16 + digit) ≡ capped (number * 16 + digit)
hexadecimal_step number digit = omega arith

capped_step : (base number digit : ℕ) → IsBase base → capped (capped number * base + digit) ≡ capped (number * base + digit)
capped_step base number digit some = elim some [
  | inl ten ↦ rw ten (decimal_step number digit)
  | inr sixteen ↦ rw sixteen (hexadecimal_step number digit)
]

capped_fold : (base number : ℕ) (digits : List ℕ) → IsBase base → capped (fold (λ number digit. number * base + digit) (capped number) digits) ≡ capped (fold (λ number digit. number * base + digit) number digits)
capped_fold base number [] some = omega arith
capped_fold base number (digit ∷ digits) some =
    sym (capped_fold base (capped number * base + digit) digits some)
    ∙ ap (λ n. capped (fold (λ number digit. number * base + digit) n digits)) (capped_step base number digit some)
    ∙ capped_fold base (number * base + digit) digits some

pub digits_bad : (base number octet : ℕ) (text behind : List ℕ) → text ≡ octet ∷ behind → digit_value base octet ≡ None → digits_after base number text ≡ None
digits_bad base number octet text behind is none =
    ap (digits_after base number) is
    ∙ ap (λ found. option_map (λ (digits : List ℕ). capped (fold (λ number digit. number * base + digit) number digits)) (every (found ∷ map (digit_value base) behind))) none

digits_more : (base number digit : ℕ) (found : Option (List ℕ)) → IsBase base
    → option_map (λ (digits : List ℕ). capped (fold (λ number digit. number * base + digit) number digits)) (option_map (λ xs. digit ∷ xs) found)
    ≡ option_map (λ (digits : List ℕ). capped (fold (λ number digit. number * base + digit) (capped (number * base + digit)) digits)) found
digits_more base number digit None some = refl
digits_more base number digit (Some digits) some = ap Some (sym (capped_fold base (number * base + digit) digits some))

pub digits_step : (base number octet digit : ℕ) (text behind : List ℕ) → IsBase base → text ≡ octet ∷ behind → digit_value base octet ≡ Some digit → digits_after base number text ≡ digits_after base (capped (number * base + digit)) behind
digits_step base number octet digit text behind some is here =
    ap (digits_after base number) is
    ∙ ap (λ found. option_map (λ (digits : List ℕ). capped (fold (λ number digit. number * base + digit) number digits)) (every (found ∷ map (digit_value base) behind))) here
    ∙ digits_more base number digit (every (map (digit_value base) behind)) some

pub digits_nil : (base number : ℕ) (text : List ℕ) → length text ≡ 0 → digits_after base number text ≡ Some (capped number)
digits_nil base number [] none = refl
digits_nil base number (octet ∷ text) none = absurd (omega arith)

option_map_map : (base : ℕ) (found : Option (List ℕ)) → option_map (λ (digits : List ℕ). capped (fold (λ number digit. number * base + digit) 0 digits)) found ≡ option_map capped (option_map (fold (λ number digit. number * base + digit) 0) found)
option_map_map base None = refl
option_map_map base (Some digits) = refl

pub number_some : (base : ℕ) (text : List ℕ) → 0 < length text → digits_after base 0 text ≡ option_map capped (number_of_digits base text)
number_some base [] some = absurd (omega arith)
number_some base (octet ∷ text) some = option_map_map base (every (map (digit_value base) (octet ∷ text)))

pub digits_end : (base number : ℕ) (text : List ℕ) → length text ≡ 0 → number ≤ 1114112 → digits_after base number text ≡ Some number
digits_end base number text none small = digits_nil base number text none ∙ ap Some (omega arith)
