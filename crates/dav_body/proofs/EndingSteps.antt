-- The endings of a markup that is cut, tried one after another.
use Rattle.std.proofs.Common.{◌≡◌, ◌<◌, ◌+◌, ℕ, Bool, true, false, List, ◌∷◌, Bor, length, map, drop, get_or, ap, ap₂, ◌∙◌}
use Rattle.std.specs.Prelude.{◌||◌}
use Rattle.std.specs.List.{list_any}
use Rattle.std.proofs.Math.Seq.{drop-cons}
use Rattle.std.proofs.Math.Numerals.{suc-eq-add-one}

module _ (test : List ℕ → Bool) (items : List (Bor (List ℕ))) where
  -- whether one from a place on passes
  abbrev any_from : ℕ → Bool
  any_from index = list_any test (map (λ (item : Bor (List ℕ)). item.now) (drop index items))

  any_from-at : (index : ℕ) (item : Bor (List ℕ)) → index < length items → get_or items index item ≡ item → any_from index ≡ (test item.now || any_from (index + 1))
  any_from-at index item within is = ap (λ rest. list_any test (map (λ (one : Bor (List ℕ)). one.now) rest)) (drop-cons items index item within ∙ ap₂ (λ one place. one ∷ drop place items) is (suc-eq-add-one index))

  pub ended_here : (index : ℕ) (item : Bor (List ℕ)) → index < length items → get_or items index item ≡ item → test item.now ≡ true → any_from index ≡ true
  ended_here index item within is passes = any_from-at index item within is ∙ ap (λ b. b || any_from (index + 1)) passes

  pub ended_later : (index : ℕ) (item : Bor (List ℕ)) → index < length items → get_or items index item ≡ item → test item.now ≡ false → any_from index ≡ any_from (index + 1)
  ended_later index item within is fails = any_from-at index item within is ∙ ap (λ b. b || any_from (index + 1)) fails
