-- What a difference of two digests says, octet by octet.
use Rattle.std.proofs.Common.{◌≡◌, ℕ, ◌+◌, ◌<◌, ◌≤◌, ◌==◌, List, length, get_or, ap, ◌∙◌, arith, below_more}
use Rattle.std.specs.Int.Bits.{bit_or, bit_xor, or_zero_l, xor_self, xor_add_and}
use Rattle.std.specs.Prelude.{bytes_eq}
use Rattle.std.proofs.lemmas.Bool.{eqb-true, eq-eqb}
use Rattle.std.proofs.lemmas.Bool.Decides.{same_from_decides}
use Rattle.std.proofs.lemmas.List.{ext_get_or}
use Rattle.std.proofs.lemmas.Slice.Eq.{bytes_eq-Decides}
use Rattle.std.proofs.lemmas.Nat.{and_le_l, and_le_r, le_or_l, le_or_r}

-- two digests have the same octets before a place
abbrev pub AgreeBelow : ℕ → List ℕ → List ℕ → Type 0
AgreeBelow n digest other = (k : ℕ) → k < n → get_or digest k 0 ≡ get_or other k 0

-- a difference says whether they have
abbrev pub Tells : ℕ → ℕ → List ℕ → List ℕ → Type 0
Tells difference n digest other = (difference ≡ 0 → AgreeBelow n digest other) × (AgreeBelow n digest other → difference ≡ 0)

xor_none : (x y : ℕ) → bit_xor x y ≡ 0 → x ≡ y
xor_none x y none = omega (arith, none, xor_add_and x y, and_le_l x y, and_le_r x y)

none_of_both : (x y : ℕ) → x ≡ 0 → y ≡ 0 → bit_or x y ≡ 0
none_of_both x y first second = ap (λ n. bit_or n y) first ∙ or_zero_l y ∙ second

-- one octet more
pub Tells-more : (difference n : ℕ) (digest other : List ℕ) → Tells difference n digest other
    → Tells (bit_or difference (bit_xor (get_or digest n 0) (get_or other n 0))) (n + 1) digest other
Tells-more difference n digest other tells =
    let apart = bit_xor (get_or digest n 0) (get_or other n 0) in (
      λ none. below_more (λ k. get_or digest k 0 ≡ get_or other k 0) n
          (tells.0 (omega (arith, none, le_or_l difference apart)))
          (xor_none (get_or digest n 0) (get_or other n 0) (omega (arith, none, le_or_r difference apart))),
      λ all.
          none_of_both difference apart (tells.1 (λ k below. all k (omega (arith, below))))
          (ap (λ m. bit_xor m (get_or other n 0)) (all n (omega arith)) ∙ xor_self (get_or other n 0)),
    )

-- all octets
pub bytes_eq-tells : (difference n : ℕ) (digest other : List ℕ) → length digest ≡ length other → length digest ≤ n → Tells difference n digest other → (difference == 0) ≡ bytes_eq digest other
bytes_eq-tells difference n digest other long all tells =
    same_from_decides _ _ (
      λ none. ext_get_or 0 digest other long (λ k within. tells.0 (eqb-true difference 0 none) k (omega (arith, within, all))),
      λ same. eq-eqb difference 0 (tells.1 (λ k below. ap (λ octets. get_or octets k 0) same)),
    ) (bytes_eq-Decides digest other)
