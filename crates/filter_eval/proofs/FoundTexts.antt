-- A text stands in another where a search finds it.
use Rattle.std.proofs.Common.{◌≡◌, ℕ, zero, suc, ◌+◌, ◌≤◌, true, false, List, [], ◌∷◌, length, take, drop, refl, sym, ap, ◌∙◌, arith, inl, inr, Option, Some, None}
use Rattle.std.specs.Prelude.{◌||◌, nat_eq, is_some}
use Rattle.std.specs.List.{starts_with}
use Rattle.std.proofs.Common.{eq-eqb}
use Rattle.std.proofs.lemmas.Bool.{cases_Bool, eqb-true}
use Rattle.std.proofs.lemmas.List.{length-take}
use Rattle.std.proofs.lemmas.Slice.Eq.{bytes_eq-Decides}
use Rattle.memchr.specs.Find.{FindsNeedle}
use Rattle.memchr.proofs.lemmas.MatchLemmas.{OccursAt-part, OccursAt-from_part}
use Rattle.cal_model.specs.Filters.TextTests.{stands_in}
use Rattle.cal_model.proofs.Words.ListTests.{same_bool, or_left, or_right}

stands_at : (part text : List ℕ) (k : ℕ) → k + length part ≤ length text → take (length part) (drop k text) ≡ part → stands_in part text ≡ true
stands_at part [] k fits is = eq-eqb (length part) 0 (omega arith)
stands_at part (octet ∷ text) zero fits is =
    or_left (starts_with nat_eq (octet ∷ text) part) (stands_in part text) ((bytes_eq-Decides part (take (length part) (octet ∷ text))).1 (sym is))
stands_at part (octet ∷ text) (suc k) fits is =
    or_right (starts_with nat_eq (octet ∷ text) part) (stands_in part text) (stands_at part text k (omega arith) is)

abbrev Stands : List ℕ → List ℕ → Type 0
Stands part text = (k : ℕ) × (k + length part ≤ length text) × (take (length part) (drop k text) ≡ part)

stands : (part text : List ℕ) → stands_in part text ≡ true → Stands part text
stands [] [] is = (0, omega arith, refl)
stands (octet ∷ part) [] is = absurd (let none : length (octet ∷ part) ≡ 0 = eqb-true (length (octet ∷ part)) 0 is in omega arith)
stands part (octet ∷ text) is = elim (cases_Bool (starts_with nat_eq (octet ∷ text) part)) [
  | inl w ↦ (let same : take (length part) (octet ∷ text) ≡ part = sym ((bytes_eq-Decides part (take (length part) (octet ∷ text))).0 w) in
      (0, fits part (octet ∷ text) same, same))
  | inr w ↦ (let behind = stands part text (ap (λ b. b || stands_in part text) (sym w) ∙ is) in
      (suc behind.0, (let within = behind.1 in omega arith), behind.2))
]
  where
    fits : (part text : List ℕ) → take (length part) text ≡ part → 0 + length part ≤ length text
    fits part text same = let long = sym (length-take (length part) text) ∙ ap length same in omega (arith, long)

pub found : (text part : List ℕ) (r : Option ℕ) → FindsNeedle text part 0 r → is_some r ≡ stands_in part text
found text part (Some k) finds = sym (stands_at part text k (let o = finds.1 in let within = o.fits in omega arith) (OccursAt-part text part k finds.1))
found text part None finds = same_bool false (stands_in part text)
    (λ e. absurd cc)
    (λ e. (let at = stands part text e in
    absurd (finds at.0 (omega arith) (let within = at.1 in omega arith) (OccursAt-from_part text part at.0 at.1 at.2))))
