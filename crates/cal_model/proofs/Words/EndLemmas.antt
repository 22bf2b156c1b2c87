-- Where the parts of a text end: at an octet that they don't have, or at their length.
use Rattle.std.proofs.Common.{◌≡◌, ℕ, zero, suc, ◌<◌, ◌/◌, ◌%◌, ◌^◌, Bool, true, false, nat_le, ◌==◌, List, [], ◌∷◌, ◌++◌, length, take, drop, slice_index, refl, sym, ap, ap₂, ◌∙◌, arith, inl, inr}
use Rattle.std.proofs.lemmas.Bool.{and_parts, and_from, cases_Bool, true≢false}
use Rattle.std.proofs.lemmas.Fmt.{decimal_injective}
use Rattle.std.proofs.Math.Seq.{take-append_seam, drop-append_seam}
use Rattle.std.specs.Fmt.{decimal, digits, digits_onto, digit_glyph}
use Rattle.std.specs.List.{list_all}

-- the first octets of equal texts, and what follows them
pub heads : {a b : ℕ} {front back : List ℕ} → a ∷ front ≡ b ∷ back → a ≡ b
heads e = ap (λ octets. slice_index octets 0) e

pub tails : {a b : ℕ} {front back : List ℕ} → a ∷ front ≡ b ∷ back → front ≡ back
tails e = ap (drop 1) e

-- a text of octets that pass a test ends where one stands that fails it
module _ (test : ℕ → Bool) (octet : ℕ) (fails : test octet ≡ false) where
  passes_not : (c : ℕ) → test c ≡ true → c ≡ octet → ⊥
  passes_not c h e = true≢false (sym h ∙ (ap test e ∙ fails))

  pub ends_at : (left right a b : List ℕ) → list_all test left ≡ true → list_all test right ≡ true
      → left ++ (octet ∷ a) ≡ right ++ (octet ∷ b) → (left ≡ right) × (a ≡ b)
  ends_at [] [] a b p q e = (refl, tails e)
  ends_at [] (d ∷ right) a b p q e = absurd (passes_not d (and_parts (test d) (list_all test right) q).0 (sym (heads e)))
  ends_at (c ∷ left) [] a b p q e = absurd (passes_not c (and_parts (test c) (list_all test left) p).0 (heads e))
  ends_at (c ∷ left) (d ∷ right) a b p q e =
      let rest = ends_at left right a b (and_parts (test c) (list_all test left) p).1 (and_parts (test d) (list_all test right) q).1 (tails e) in
      (ap₂ (λ x xs. x ∷ xs) (heads e) rest.0, rest.1)

-- the octets of digits, and those above them
abbrev pub is_high : ℕ → Bool
is_high octet = nat_le 48 octet

digit_is_high : (n : ℕ) → is_high (digit_glyph false (n % 10)) ≡ true
digit_is_high n = grind arith

digits_are_high : (k n : ℕ) (rest : List ℕ) → list_all is_high rest ≡ true → list_all is_high (digits_onto k 10 false n rest) ≡ true
digits_are_high zero n rest e = e
digits_are_high (suc k) n rest e =
    let more = and_from _ _ (digit_is_high n) e in
    elim (cases_Bool (n / 10 == 0)) [
      | inl last ↦ rw last more
      | inr other ↦ rw other (digits_are_high k (n / 10) (digit_glyph false (n % 10) ∷ rest) more)
    ]

-- a decimal number has no octet below the digits
pub number_is_high : (n : ℕ) → list_all is_high (decimal n) ≡ true
unfolding digits
number_is_high n = digits_are_high 64 n [] refl

-- so a number ends at such an octet
pub number_ends : (octet : ℕ) → is_high octet ≡ false → (m n : ℕ) → m < 2 ^ 64 → n < 2 ^ 64 → (a b : List ℕ)
    → decimal m ++ (octet ∷ a) ≡ decimal n ++ (octet ∷ b) → (m ≡ n) × (a ≡ b)
number_ends octet low m n p q a b e =
    let both = ends_at is_high octet low (decimal m) (decimal n) a b (number_is_high m) (number_is_high n) e in
    (decimal_injective m n p q both.0, both.1)

-- texts of one length in front of others
pub fronts : (left right a b : List ℕ) → length left ≡ length right → left ++ a ≡ right ++ b → (left ≡ right) × (a ≡ b)
fronts left right a b same e = (
  sym (take-append_seam left a) ∙ (ap (take (length left)) e ∙ (ap (λ n. take n (right ++ b)) same ∙ take-append_seam right b)),
  sym (drop-append_seam left a) ∙ (ap (drop (length left)) e ∙ (ap (λ n. drop n (right ++ b)) same ∙ drop-append_seam right b)),
)
