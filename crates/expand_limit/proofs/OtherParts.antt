-- The components that are of none of the four kinds, one after another.
use Rattle.std.proofs.Common.{◌≡◌, ℕ, true, false, not, List, [], ◌∷◌, ◌++◌, sym, ap, ◌∙◌, append-nil, append_assoc}
use Rattle.std.specs.Prelude.{flat_map, filter}
use Rattle.std.proofs.lemmas.Bool.{cond-true, cond-false}
use Rattle.std.proofs.lemmas.List.Concat.{flat_map-append}
use Rattle.cal_base.specs.declared.line.Node.{Node}
use Rattle.cal_model.specs.Selections.Expansion.{plain, is_of_four_kinds, other_components}
use Rattle.expand_limit.specs.ShownTexts.{seen_nodes}

others_kept : (node : Node) (rest : List Node) → is_of_four_kinds node ≡ false → other_components (node ∷ rest) ≡ seen_nodes true (node ∷ []) ++ other_components rest
others_kept node rest other =
    ap (flat_map plain) (cond-true (not (is_of_four_kinds node)) (node ∷ filter (λ n. not (is_of_four_kinds n)) rest) (filter (λ n. not (is_of_four_kinds n)) rest) (ap not other))
    ∙ ap (λ first. first ++ other_components rest) (sym (append-nil (plain node)))

pub others-skipped : (node : Node) (rest : List Node) → is_of_four_kinds node ≡ true → other_components (node ∷ rest) ≡ other_components rest
others-skipped node rest is =
    ap (flat_map plain) (cond-false (not (is_of_four_kinds node)) (node ∷ filter (λ n. not (is_of_four_kinds n)) rest) (filter (λ n. not (is_of_four_kinds n)) rest) (ap not is))

pub others-text : (text : Node → List ℕ) (out new : List ℕ) (node : Node) (rest : List Node) → is_of_four_kinds node ≡ false → new ≡ out ++ flat_map text (seen_nodes true (node ∷ []))
    → new ++ flat_map text (other_components rest) ≡ out ++ flat_map text (other_components (node ∷ rest))
others-text text out new node rest other now =
    ap (λ those. those ++ flat_map text (other_components rest)) now ∙ append_assoc out (flat_map text (seen_nodes true (node ∷ []))) (flat_map text (other_components rest))
    ∙ ap (λ those. out ++ those) (sym (flat_map-append text (seen_nodes true (node ∷ [])) (other_components rest)) ∙ ap (flat_map text) (sym (others_kept node rest other)))
