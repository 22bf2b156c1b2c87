-- Texts in upper case: raising them once more changes nothing.
use Rattle.std.proofs.Common.{◌≡◌, ℕ, ◌-◌, ◌<◌, ◌≤◌, List, [], ◌∷◌, refl, ap, sym, ◌∙◌, arith, inl, inr, ◌⊎◌}
use Rattle.std.specs.Prelude.{nat_le, if◌then◌else◌, ◌&&◌}
use Rattle.std.proofs.lemmas.Bool.{cases_lt, lt-leb, le-leb, and_from, and_right}
use Rattle.cal_base.specs.Texts.Text.{raised, raised_all, IsRaised}

pub raised-low : (octet : ℕ) → octet < 97 → raised octet ≡ octet
raised-low octet low = ap (λ b. if b && nat_le octet 122 then octet - 32 else octet) (lt-leb 97 octet low)

pub raised-high : (octet : ℕ) → 122 < octet → raised octet ≡ octet
raised-high octet high = ap (λ b. if b then octet - 32 else octet) (and_right (nat_le 97 octet) (nat_le octet 122) (lt-leb octet 122 high))

raised-letter : (octet : ℕ) → 97 ≤ octet → octet ≤ 122 → raised octet ≡ octet - 32
raised-letter octet low high = ap (λ b. if b then octet - 32 else octet) (and_from (nat_le 97 octet) (nat_le octet 122) (le-leb 97 octet low) (le-leb octet 122 high))

-- a letter in lower case, or an octet or character that stays
pub raised_cases : (octet : ℕ) → ((97 ≤ octet) × (octet ≤ 122) × (raised octet ≡ octet - 32)) ⊎ (raised octet ≡ octet)
raised_cases octet =
    elim (cases_lt octet 97) [
      | inl low ↦ inr (raised-low octet low)
      | inr from ↦ elim (cases_lt 122 octet) [ inl high ↦ inr (raised-high octet high) | inr to ↦ inl (from, to, raised-letter octet from to) ]
    ]

raised-raised : (octet : ℕ) → raised (raised octet) ≡ raised octet
raised-raised octet = elim (raised_cases octet) [ inl letter ↦ ap raised letter.2 ∙ raised-low (octet - 32) (omega (arith, letter.1)) ∙ sym letter.2 | inr same ↦ ap raised same ]

pub IsRaised-raised_all : (text : List ℕ) → IsRaised (raised_all text)
IsRaised-raised_all [] = refl
IsRaised-raised_all (octet ∷ text) = ap (λ first. first ∷ raised_all (raised_all text)) (raised-raised octet) ∙ ap (λ rest. raised octet ∷ rest) (IsRaised-raised_all text)
