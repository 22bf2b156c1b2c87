-- Marked places, and the components that stay, one after another.
use Rattle.std.proofs.Common.{◌≡◌, ℕ, ◌+◌, Bool, true, false, List, [], ◌∷◌, ◌++◌, get_or, refl, sym, ap, ◌∙◌, append_assoc}
use Rattle.std.specs.Prelude.{◌==◌, ◌||◌, if◌then◌else◌, flat_map}
use Rattle.std.proofs.lemmas.List.Concat.{flat_map-append}
use Rattle.std.proofs.lemmas.List.Folds.{list_any-append}
use Rattle.cal_base.specs.declared.line.Node.{Node}
use Rattle.expand_limit.specs.SeenRows.{is_place, left_nodes}

or_three : (a b c : Bool) → ((a || b) || c) ≡ (a || (b || c))
or_three true b c = refl
or_three false b c = refl

-- one more component's place
pub marked-next : (k : ℕ) (before after : Bool) (one more : List ℕ) → after ≡ (before || is_place k one) → (after || is_place k more) ≡ (before || is_place k (one ++ more))
marked-next k before after one more is =
    ap (λ b. b || is_place k more) is ∙ or_three before (is_place k one) (is_place k more) ∙ ap (λ b. before || b) (sym (list_any-append (λ p. p == k) one more))

-- a component, if it stays
pub left-text : (text : Node → List ℕ) (gone : List Bool) (place : ℕ) (out new : List ℕ) (goes : Bool) (node : Node) (rest : List Node) → goes ≡ get_or gone place false → new ≡ out ++ flat_map text (if goes then [] else node ∷ [])
    → new ++ flat_map text (left_nodes gone (place + 1) rest) ≡ out ++ flat_map text (left_nodes gone place (node ∷ rest))
left-text text gone place out new goes node rest is now =
    let later = left_nodes gone (place + 1) rest in
    let one = λ (b : Bool). if b then [] else node ∷ [] in
    ap (λ those. those ++ flat_map text later) now ∙ append_assoc out (flat_map text (one goes)) (flat_map text later)
    ∙ ap (λ those. out ++ those) (sym (flat_map-append text (one goes) later) ∙ ap (λ b. flat_map text (one b ++ later)) is)
