-- The instances of rows, one after another.
use Rattle.std.proofs.Common.{◌≡◌, ℕ, Bool, true, false, List, [], ◌∷◌, ◌++◌, refl, sym, ap, ◌∙◌, append-nil, append_assoc}
use Rattle.std.specs.Prelude.{flat_map, filter, if◌then◌else◌, ◌||◌, Option, Some, option_to_list, slice_get}
use Rattle.std.specs.List.{list_any}
use Rattle.std.proofs.lemmas.List.Concat.{flat_map-append}
use Rattle.cal_base.specs.declared.line.Node.{Node}
use Rattle.cal_model.specs.declared.row.Row.{Row}
use Rattle.cal_model.specs.Ranges.RowRanges.{row_in_range}
use Rattle.cal_model.specs.declared.object.Component.{Component}
use Rattle.cal_model.specs.declared.object.Object.{Object}
use Rattle.cal_model.specs.Objects.ComponentLines.{children_of}
use Rattle.cal_model.specs.Ranges.Overlap.{row_overlaps}
use Rattle.cal_model.specs.Selections.Expansion.{instances_of_row, instance_from, node_of}
use Rattle.expand_limit.specs.declared.expand.Expansion.{Expansion}
use Rattle.expand_limit.specs.Instances.{instances_in}

instances_cons : (expansion : Expansion) (row : Row) (rest : List Row) → instances_in expansion (row ∷ []) ++ instances_in expansion rest ≡ instances_in expansion (row ∷ rest)
instances_cons expansion row rest = cases (row_in_range expansion.object.now expansion.zone.now expansion.range row)
  where
    cases : (b : Bool) → flat_map (instances_of_row expansion.object.now) (if b then row ∷ [] else []) ++ flat_map (instances_of_row expansion.object.now) (filter (row_in_range expansion.object.now expansion.zone.now expansion.range) rest)
        ≡ flat_map (instances_of_row expansion.object.now) (if b then row ∷ filter (row_in_range expansion.object.now expansion.zone.now expansion.range) rest else filter (row_in_range expansion.object.now expansion.zone.now expansion.range) rest)
    cases true = ap (λ first. first ++ flat_map (instances_of_row expansion.object.now) (filter (row_in_range expansion.object.now expansion.zone.now expansion.range) rest)) (append-nil (instances_of_row expansion.object.now row))
    cases false = refl

pub instances-text : (text : Node → List ℕ) (expansion : Expansion) (out new : List ℕ) (row : Row) (rest : List Row) → new ≡ out ++ flat_map text (instances_in expansion (row ∷ []))
    → new ++ flat_map text (instances_in expansion rest) ≡ out ++ flat_map text (instances_in expansion (row ∷ rest))
instances-text text expansion out new row rest now =
    ap (λ those. those ++ flat_map text (instances_in expansion rest)) now ∙ append_assoc out (flat_map text (instances_in expansion (row ∷ []))) (flat_map text (instances_in expansion rest))
    ∙ ap (λ those. out ++ those) (sym (flat_map-append text (instances_in expansion (row ∷ [])) (instances_in expansion rest)) ∙ ap (flat_map text) (instances_cons expansion row rest))

-- The instance of one row

abbrev found_in : Expansion → Row → Option Component → List Row
found_in expansion row found = if list_any (λ c. row_overlaps c row expansion.range expansion.zone.now) (option_to_list found) then row ∷ [] else []

abbrev made_of : Object → Row → List Component → List Node
made_of object row found = flat_map (λ c. flat_map (λ node. instance_from object row c node ∷ []) (node_of object c)) found

one_row : (expansion : Expansion) (row : Row) (found : Option Component) → slice_get expansion.object.now.components row.component ≡ found
    → instances_in expansion (row ∷ []) ≡ flat_map (λ r. made_of expansion.object.now r (option_to_list (slice_get expansion.object.now.components r.component))) (found_in expansion row found)
one_row expansion row found is = ap (λ o. flat_map (instances_of_row expansion.object.now) (found_in expansion row o)) is

met_row : (expansion : Expansion) (row : Row) (c : Component) → slice_get expansion.object.now.components row.component ≡ Some c → row_overlaps c row expansion.range expansion.zone.now ≡ true
    → instances_in expansion (row ∷ []) ≡ flat_map (λ node. instance_from expansion.object.now row c node ∷ []) (node_of expansion.object.now c)
met_row expansion row c is meets =
    one_row expansion row (Some c) is
    ∙ ap (λ b. flat_map (instances_of_row expansion.object.now) (if b || false then row ∷ [] else [])) meets
    ∙ append-nil (instances_of_row expansion.object.now row)
    ∙ ap (λ o. made_of expansion.object.now row (option_to_list o)) is
    ∙ append-nil (flat_map (λ node. instance_from expansion.object.now row c node ∷ []) (node_of expansion.object.now c))

pub row-one : (expansion : Expansion) (row : Row) (c : Component) (node : Node) → slice_get expansion.object.now.components row.component ≡ Some c → row_overlaps c row expansion.range expansion.zone.now ≡ true
    → slice_get (children_of expansion.object.now.tree) c.child ≡ Some node → instances_in expansion (row ∷ []) ≡ instance_from expansion.object.now row c node ∷ []
row-one expansion row c node is meets there = met_row expansion row c is meets ∙ ap (λ o. flat_map (λ n. instance_from expansion.object.now row c n ∷ []) (option_to_list o)) there
