-- One more of what is asked for.
use Rattle.std.proofs.Common.{◌≡◌, ℕ, ◌+◌, ◌≤◌, List, [], ◌∷◌, ◌++◌, map, sym, ap, ◌∙◌, arith, Bool, inl, inr}
use Rattle.std.proofs.lemmas.Bool.{cases_Bool}
use Rattle.std.specs.Prelude.{filter, sum, fold, OnOk, Result, Ok, Err}
use Rattle.std.proofs.lemmas.List.{append_assoc}
use Rattle.std.proofs.lemmas.List.Elements.{filter-append}

-- one more part
pub more : {Y : Type 0} (done here behind whole : List Y) → done ++ (here ++ behind) ≡ whole → (done ++ here) ++ behind ≡ whole
more done here behind whole e = append_assoc done here behind ∙ e

-- one more start, as far as it is kept
pub kept_more : {X Y : Type 0} (p : Y → Bool) (f : X → Y) (done whole : List Y) (x : X) (behind : List X) → done ++ filter p (map f (x ∷ behind)) ≡ whole → (done ++ filter p (f x ∷ [])) ++ filter p (map f behind) ≡ whole
kept_more p f done whole x behind e =
    append_assoc done (filter p (f x ∷ [])) (filter p (map f behind)) ∙ (ap (λ more. done ++ more) (sym (filter-append p (f x ∷ []) (map f behind))) ∙ e)

-- Sums.

sum_from : (a : ℕ) (xs : List ℕ) → fold (λ s x. s + x) a xs ≡ a + fold (λ s x. s + x) 0 xs
sum_from a [] = omega arith
sum_from a (x ∷ xs) = let here = sum_from (a + x) xs in let there = sum_from (0 + x) xs in omega (arith, here, there)

pub sum-cons : (x : ℕ) (xs : List ℕ) → sum (x ∷ xs) ≡ x + sum xs
sum-cons x xs = let from = sum_from (0 + x) xs in omega (arith, from)

-- the steps of one more part
pub counted_more : (before next here : ℕ) (behind : List ℕ) (all : ℕ) → next ≤ before + here → before + sum (here ∷ behind) ≤ all → next + sum behind ≤ all
counted_more before next here behind all step rest = let e = sum-cons here behind in omega (arith, step, rest, e)

-- one more item, as far as it is kept, and what is made of it
pub mapped_more : {X Y : Type 0} (p : X → Bool) (f : X → Y) (done whole : List Y) (x : X) (behind : List X) → done ++ map f (filter p (x ∷ behind)) ≡ whole → (done ++ map f (filter p (x ∷ []))) ++ map f (filter p behind) ≡ whole
mapped_more p f done whole x behind e = elim (cases_Bool (p x)) [
  | inl w ↦ (let all = rw w at e in rw w (append_assoc done (f x ∷ []) (map f (filter p behind)) ∙ all))
  | inr w ↦ (let all = rw w at e in rw w (append_assoc done [] (map f (filter p behind)) ∙ all))
]

-- what follows of two facts at Ok
pub on_ok_both : {A E : Type 0} (P Q R : Type 0) (r : Result A E) → (P → Q → R) → OnOk r P → OnOk r Q → OnOk r R
on_ok_both P Q R (Ok x) f p q = f p q
on_ok_both P Q R (Err e) f p q = tt
