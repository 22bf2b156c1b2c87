-- Where two texts differ.
use Rattle.std.proofs.Common.{◌≡◌, ◌≢◌, ℕ, ◌+◌, ◌<◌, ◌≤◌, ◌⊎◌, inl, inr, List, [], ◌∷◌, length, drop, nat_eq, refl, sym, ◌∙◌, ap, arith}
use Rattle.std.specs.List.{common_prefix_len}
use Rattle.std.proofs.lemmas.List.{drop_all}
use Rattle.std.proofs.lemmas.Bool.{cases_eq, eq-eqb, ne_eqb}

step_same : (x y : ℕ) (xs ys : List ℕ) → x ≡ y → common_prefix_len nat_eq (x ∷ xs) (y ∷ ys) ≡ 1 + common_prefix_len nat_eq xs ys
step_same x y xs ys same = rw (eq-eqb x y same) refl

step_other : (x y : ℕ) (xs ys : List ℕ) → x ≢ y → common_prefix_len nat_eq (x ∷ xs) (y ∷ ys) ≡ 0
step_other x y xs ys other = rw (ne_eqb x y other) refl

-- at the end of one of them nothing more is alike
pub ends_at : (a b : List ℕ) (n : ℕ) → length b ≤ n → common_prefix_len nat_eq (drop n a) (drop n b) ≡ 0
ends_at a b n all = ap (λ (ys : List ℕ). common_prefix_len nat_eq (drop n a) ys) (drop_all n b all) ∙ none (drop n a)
  where
    none : (xs : List ℕ) → common_prefix_len {Y = ℕ} nat_eq xs [] ≡ 0
    none [] = refl
    none (x ∷ xs) = refl

-- texts that are alike in whole are one
pub alike_in_whole : (a b : List ℕ) → length a ≤ common_prefix_len nat_eq a b → length b ≤ common_prefix_len nat_eq a b → a ≡ b
alike_in_whole [] [] all_a all_b = refl
alike_in_whole [] (y ∷ ys) all_a all_b = absurd (omega (arith, all_b))
alike_in_whole (x ∷ xs) [] all_a all_b = absurd (omega (arith, all_a))
alike_in_whole (x ∷ xs) (y ∷ ys) all_a all_b = elim (cases_eq x y) [
  | inl same ↦
      let step = step_same x y xs ys same in
      let rest = alike_in_whole xs ys (omega (arith, all_a, step)) (omega (arith, all_b, step)) in
      ap (λ (z : ℕ). z ∷ xs) same ∙ ap (λ (zs : List ℕ). y ∷ zs) rest
  | inr other ↦ absurd (omega (arith, all_a, step_other x y xs ys other))
]

alike_itself : (a : List ℕ) → common_prefix_len nat_eq a a ≡ length a
alike_itself [] = refl
alike_itself (x ∷ xs) = omega (arith, step_same x x xs xs refl, alike_itself xs)

-- and texts that are not, differ
pub not_alike : (a b : List ℕ) → (common_prefix_len nat_eq a b < length a) ⊎ (common_prefix_len nat_eq a b < length b) → a ≢ b
not_alike a b less same =
    let all : common_prefix_len nat_eq a b ≡ length a = ap (λ (ys : List ℕ). common_prefix_len nat_eq a ys) (sym same) ∙ alike_itself a in
    omega (arith, all, ap length same, less)
