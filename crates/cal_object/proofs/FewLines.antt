-- A text has no more lines than octets, and a tree no more components in its outermost one than lines.
use Rattle.std.proofs.Common.{◌≡◌, ℕ, suc, ◌+◌, ◌<◌, ◌≤◌, List, [], ◌∷◌, ◌++◌, length, refl, sym, ap, subst, arith, length-append, Bool, inl, inr}
use Rattle.std.specs.Prelude.{map, filter, filter_map, Option, Some, None, if◌then◌else◌, ◌==◌}
use Rattle.std.specs.List.{cons_option}
use Rattle.std.proofs.lemmas.Bool.{cases_Bool}
use Rattle.std.proofs.lemmas.List.{length-map}
use Rattle.cal_base.specs.declared.line.Line.{Line}
use Rattle.cal_base.specs.declared.line.Node.{Node}
use Rattle.cal_base.specs.declared.line.Node.TheOpen.{Node-F}
use Rattle.cal_base.specs.declared.line.Node.TheViews.{out-roll-Node}
use Rattle.cal_base.specs.Texts.Octets.{line_feed}
use Rattle.cal_base.specs.Lines.ContentLines.{Physical, Placed, pieces, onto_first, physical_from, physical_lines, continues, joined, groups, unfolded, logical_lines, placed_line, placed_lines}
use Rattle.cal_base.specs.Lines.ComponentTrees.{component_name}
use Rattle.cal_base.specs.Lines.LineGrammar.{IsComponent, whole, IsBody, empty, own_line, own_component}
use Rattle.cal_model.specs.Objects.ComponentLines.{children_of}
use Rattle.cal_model.specs.Objects.LineValues.{lines_in}

-- Lists

pub filter_short : {X : Type 0} (p : X → Bool) (xs : List X) → length (filter p xs) ≤ length xs
filter_short p [] = omega arith
filter_short p (x ∷ xs) = let rest = filter_short p xs in elim (cases_Bool (p x)) [
  | inl w ↦ rw w (omega (arith, rest))
  | inr w ↦ rw w (omega (arith, rest))
]

filter_map_short : {X Y : Type 0} (f : X → Option Y) (xs : List X) → length (filter_map f xs) ≤ length xs
filter_map_short f [] = omega arith
filter_map_short {Y = Y} f (x ∷ xs) = step (f x) (filter_map_short f xs)
  where
    step : (found : Option Y) → length (filter_map f xs) ≤ length xs → length (cons_option found (filter_map f xs)) ≤ suc (length xs)
    step None rest = omega (arith, rest)
    step (Some y) rest = omega (arith, rest)

-- Lines

-- how many physical lines pieces are
abbrev count : List (List ℕ) → ℕ
count [] = 0
count (last ∷ []) = if length last == 0 then 0 else 1
count (piece ∷ next ∷ more) = suc (count (next ∷ more))

counted : (pieces : List (List ℕ)) (place : ℕ) → length (physical_from place pieces) ≡ count pieces
counted [] place = refl
counted (last ∷ []) place = elim (cases_Bool (length last == 0)) [
  | inl w ↦ rw w refl
  | inr w ↦ rw w refl
]
counted (piece ∷ next ∷ more) place = ap suc (counted (next ∷ more) (place + length piece + 1))

-- an octet more makes a line more at most
count_onto : (octet : ℕ) (pieces : List (List ℕ)) → count (onto_first octet pieces) ≤ suc (count pieces)
count_onto octet [] = omega arith
count_onto octet (last ∷ []) = elim (cases_Bool (length (octet ∷ last) == 0)) [
  | inl w ↦ rw w (omega arith)
  | inr w ↦ rw w (omega arith)
]
count_onto octet (piece ∷ next ∷ more) = omega arith

count_cut : (pieces : List (List ℕ)) → count ([] ∷ pieces) ≤ suc (count pieces)
count_cut [] = omega arith
count_cut (next ∷ more) = omega arith

count_pieces : (octets : List ℕ) → count (pieces line_feed octets) ≤ length octets
count_pieces [] = omega arith
count_pieces (octet ∷ octets) =
    let rest = count_pieces octets in
    elim (cases_Bool (octet == line_feed)) [
      | inl w ↦ rw w (let cut = count_cut (pieces line_feed octets) in omega (arith, cut, rest))
      | inr w ↦ rw w (let onto = count_onto octet (pieces line_feed octets) in omega (arith, onto, rest))
    ]

joined_short : (physical : Physical) (those : List (List Physical)) → length (joined physical those) ≤ suc (length those)
joined_short physical [] = omega arith
joined_short physical (group ∷ those) = elim (cases_Bool (continues group)) [
  | inl w ↦ rw w (omega arith)
  | inr w ↦ rw w (omega arith)
]

groups_short : (physicals : List Physical) → length (groups physicals) ≤ length physicals
groups_short [] = omega arith
groups_short (physical ∷ more) =
    let rest = groups_short more in let one = joined_short physical (groups more) in omega (arith, rest, one)

-- a text has no more lines than octets
pub lines_few : (octets : List ℕ) → length (lines_in (placed_lines octets)) ≤ length octets
lines_few octets =
    let same = length-map (placed_lines octets) (λ (at : Placed). at.line) in
    let placed = filter_map_short placed_line (logical_lines octets) in
    let logical = filter_short (λ group. Rattle.std.specs.Prelude.nat_lt 0 (length (unfolded group))) (groups (physical_lines octets)) in
    let grouped = groups_short (physical_lines octets) in
    let physical = counted (pieces line_feed octets) 0 in
    let pieced = count_pieces octets in
    omega (arith, same, placed, logical, grouped, physical, pieced)

-- Components

component_some : (lines : List Line) (node : Node) → IsComponent lines node → 0 < length lines
component_some lines node (whole begin end body own children is_begin is_end same is_body) = omega arith

body_few : (body lines : List Line) (children : List Node) → IsBody body lines children → length children ≤ length body
body_few body lines children empty = omega arith
body_few body lines children (own_line first rest own those no_begin no_end is_body) = let few = body_few rest own those is_body in omega (arith, few)
body_few body lines children (own_component part rest own first those is_component is_body) =
    let few = body_few rest own those is_body in
    let some = component_some part first is_component in
    let both = length-append part rest in
    omega (arith, few, some, both)

-- a tree has no more components in its outermost one than lines
pub children_few : (lines : List Line) (node : Node) → IsComponent lines node → length (children_of node) ≤ length lines
children_few lines node (whole begin end body own children is_begin is_end same is_body) =
    let few = body_few body own children is_body in
    let both = length-append body (end ∷ []) in
    let parts : Node-F Node = record { name = component_name begin; lines = own; children = children } in
    subst (λ (opened : Node-F Node). length opened.children ≤ length (begin ∷ body ++ end ∷ [])) (sym (out-roll-Node parts)) (omega (arith, few, both))
