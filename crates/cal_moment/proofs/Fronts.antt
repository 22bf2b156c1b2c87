-- Two cuts of one list.
use Rattle.std.proofs.Common.{◌≡◌, ◌≢◌, true, false, nat_eq, ℕ, ◌⊎◌, inl, inr, List, [], ◌∷◌, ◌++◌, length, refl, sym, arith}
use Rattle.std.proofs.lemmas.Bool.{eqb-true}

-- one of the fronts begins with the other
pub fronts_cases : (a b c d : List ℕ) → a ++ b ≡ c ++ d → ((m : List ℕ) × (c ≡ a ++ m) × (b ≡ m ++ d)) ⊎ ((m : List ℕ) × (a ≡ c ++ m) × (d ≡ m ++ b))
fronts_cases [] b c d e = inl (c, refl, e)
fronts_cases (x ∷ a) b [] d e = inr (x ∷ a, refl, sym e)
fronts_cases (x ∷ a) b (y ∷ c) d e =
    let head : x ≡ y = cc in
    let rest : a ++ b ≡ c ++ d = cc in
    elim (fronts_cases a b c d rest) [
      | inl w ↦ inl (w.0, cc, w.2)
      | inr w ↦ inr (w.0, cc, w.2)
    ]

-- fronts of one length are the same
pub fronts_same : (a b c d : List ℕ) → length a ≡ length c → a ++ b ≡ c ++ d → (a ≡ c) × (b ≡ d)
fronts_same [] b [] d n e = (refl, e)
fronts_same [] b (y ∷ c) d n e = absurd (omega arith)
fronts_same (x ∷ a) b [] d n e = absurd (omega arith)
fronts_same (x ∷ a) b (y ∷ c) d n e =
    let head : x ≡ y = cc in
    let rest : a ++ b ≡ c ++ d = cc in
    let same = fronts_same a b c d (omega arith) rest in
    (cc, same.1)

-- what `is_empty` answers
pub not_empty : {X : Type 0} (xs : List X) → nat_eq (length xs) 0 ≡ false → xs ≢ []
not_empty [] e h = cc
not_empty (x ∷ xs) e h = cc

pub empty_is : {X : Type 0} (xs : List X) → nat_eq (length xs) 0 ≡ true → xs ≡ []
empty_is [] e = refl
empty_is (x ∷ xs) e = absurd (omega (arith, eqb-true (length (x ∷ xs)) 0 e))
