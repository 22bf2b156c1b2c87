-- The RECURRENCE-IDs of the components of an object were read; and how many components there are.
use Rattle.std.proofs.Common.{◌≡◌, ℕ, ◌+◌, ◌≤◌, List, [], ◌∷◌, length, refl, arith, length-append}
use Rattle.std.specs.Prelude.{All, option_to_list, option_map, Option, Some, None, codes}
use Rattle.std.proofs.lemmas.List.Elements.{All-nil, All-cons, All-append}
use Rattle.cal_base.specs.declared.line.Node.{Node}
use Rattle.cal_moment.specs.declared.stamp.Stamp.{Stamp}
use Rattle.cal_model.specs.declared.object.Kind.{Kind}
use Rattle.cal_model.specs.Objects.ComponentLines.{lines_of, component_kind}
use Rattle.cal_model.specs.Objects.ComponentReading.{component_of}
use Rattle.cal_model.specs.Objects.LineValues.{stamp_at}
use Rattle.cal_object.specs.Identifiers.{HasReadId}
use Rattle.cal_object.specs.KindNodes.{component_at, components_from}
use Rattle.cal_object.specs.PartDates.{HasMoment}
use Rattle.cal_object.proofs.MomentsRead.{stamp_has_moment}

id_read : (id : Option Stamp) → ((stamp : Stamp) → id ≡ Some stamp → HasMoment stamp) → All HasMoment (option_to_list id)
id_read None fact = All-nil HasMoment
id_read (Some stamp) fact = All-cons HasMoment stamp [] (fact stamp refl) (All-nil HasMoment)

component_read : (names : List (List ℕ)) (number : ℕ) (kind : Kind) (node : Node) → HasReadId (component_of names number kind node)
component_read names number kind node = id_read (stamp_at names (codes "RECURRENCE-ID") (lines_of node)) (stamp_has_moment names (codes "RECURRENCE-ID") (lines_of node))

one_read : (names : List (List ℕ)) (number : ℕ) (node : Node) (kind : Option Kind) → All HasReadId (option_to_list (option_map (λ those. component_of names number those node) kind))
one_read names number node None = All-nil HasReadId
one_read names number node (Some kind) = All-cons HasReadId (component_of names number kind node) [] (component_read names number kind node) (All-nil HasReadId)

pub ids_read : (names : List (List ℕ)) (number : ℕ) (nodes : List Node) → All HasReadId (components_from names number nodes)
ids_read names number [] = All-nil HasReadId
ids_read names number (node ∷ nodes) =
    All-append HasReadId (component_at names number node) (components_from names (number + 1) nodes) (one_read names number node (component_kind node)) (ids_read names (number + 1) nodes)

one_short : (names : List (List ℕ)) (number : ℕ) (node : Node) (kind : Option Kind) → length (option_to_list (option_map (λ those. component_of names number those node) kind)) ≤ 1
one_short names number node None = omega arith
one_short names number node (Some kind) = omega arith

-- no more components than children
pub components_short : (names : List (List ℕ)) (number : ℕ) (nodes : List Node) → length (components_from names number nodes) ≤ length nodes
components_short names number [] = omega arith
components_short names number (node ∷ nodes) =
    let one = one_short names number node (component_kind node) in
    let rest = components_short names (number + 1) nodes in
    let both = length-append (component_at names number node) (components_from names (number + 1) nodes) in
    omega (arith, one, rest, both)
