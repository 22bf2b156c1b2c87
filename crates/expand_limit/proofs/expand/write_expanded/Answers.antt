use Rattle.std.proofs.Common.{◌≡◌, ℕ, suc, ◌-◌, ◌≤◌, List, ◌++◌, length, length-drop, take, drop, refl, sym, ap, ap₂, subst, ◌∙◌, arith}
use Rattle.std.specs.Prelude.{flat_map, codes}
use Rattle.std.specs.List.{position_or_len}
use Rattle.std.proofs.lemmas.List.Concat.{flat_map-append}
use Rattle.std.proofs.lemmas.List.{take_all}
use Rattle.cal_base.specs.declared.line.Node.TheViews.{out-Node}
use Rattle.cal_base.specs.Lines.WrittenLines.{written}
use Rattle.cal_model.specs.Objects.ComponentLines.{name_of, lines_of, children_of}
use Rattle.cal_model.specs.Selections.Expansion.{is_of_four_kinds, plain_lines, other_components, expanded_children}
use Rattle.ical_objects.specs.Printing.{ArePrintable, begin_line, end_line}
use Rattle.ical_objects.proofs.Printed.{IsPrintable_out, OnOk-then}
use Rattle.expand_limit.specs.Instances.{instances_in}
use Rattle.expand_limit.specs.ShownTexts.{line_text, node_text}
use Rattle.expand_limit.proofs.PrintedParts.{printable-room, fits-take, fits-drop, three-parts, four-parts}
use Rattle.expand_limit.proofs.expand.write_expanded.Goals as goal

pub write_mark-requires : goal.write_mark-requires
write_mark-requires c = let tree = c.args.expansion.now.object.now.tree in (begin_line (out-Node tree).name, refl, (IsPrintable_out c.requires.tree.0 tree c.requires.tree.1).begin_read)

pub write_mark-requires-2 : goal.write_mark-requires-2
write_mark-requires-2 c = let tree = c.args.expansion.now.object.now.tree in (end_line (out-Node tree).name, refl, (IsPrintable_out c.requires.tree.0 tree c.requires.tree.1).end_read)

pub write_others-requires-clause-nodes : goal.write_others-requires-clause-nodes
write_others-requires-clause-nodes c =
    let room = printable-room c.requires.tree.0 c.args.expansion.now.object.now.tree c.requires.tree.1 in
    (room.room, fits-take room.room _ c.as_slice-nodes.result.now (subst (ArePrintable room.room) (sym c.as_slice-nodes.ensures) room.fit))

pub write_rows-requires-clause-tree : goal.write_rows-requires-clause-tree
write_rows-requires-clause-tree c =
    let room = printable-room c.requires.tree.0 c.args.expansion.now.object.now.tree c.requires.tree.1 in
    (room.room, room.fit)

pub write_others-requires-2-clause-nodes : goal.write_others-requires-2-clause-nodes
write_others-requires-2-clause-nodes c =
    let room = printable-room c.requires.tree.0 c.args.expansion.now.object.now.tree c.requires.tree.1 in
    let nodes = c.as_slice-nodes.result.now in
    (room.room, fits-take room.room _ (drop c.first_place-place.result nodes) (fits-drop room.room c.first_place-place.result nodes (subst (ArePrintable room.room) (sym c.as_slice-nodes.ensures) room.fit)))

rest_size : {X : Type 0} (n : ℕ) (xs : List X) → length (drop n xs) ≤ length xs - n
rest_size n xs = grind (arith, length-drop)

pub returns : goal.returns
returns c = OnOk-then c.write_mark-2.result (λ ended levels picks fits keeps.
    let expansion = c.args.expansion.now in
    let tree = expansion.object.now.tree in
    let busy = expansion.busy in
    let name = name_of tree in
    let nodes = children_of tree in
    let place = position_or_len is_of_four_kinds nodes in
    let text = node_text picks busy in
    let instances = instances_in expansion c.args.rows.now in
    let room = printable-room (suc levels) tree fits in
    let below = room.same in
    let same : room.room ≡ levels = omega (arith, below) in
    let fit : ArePrintable levels nodes = subst (λ n. ArePrintable n nodes) same room.fit in
    let all = c.as_slice-nodes.result.now in
    let at : all ≡ nodes = c.as_slice-nodes.ensures in
    let fits_all : ArePrintable levels all = subst (ArePrintable levels) (sym at) fit in
    let here : c.first_place-place.result ≡ place = c.first_place-place.ensures.value ∙ ap (position_or_len is_of_four_kinds) at in
    let own : c.write_lines.new.out ≡ c.write_mark.new.out ++ flat_map (line_text picks busy) (plain_lines (lines_of tree)) =
    c.in_ok-write_lines.ensures levels picks keeps ∙ ap (λ those. c.write_mark.new.out ++ flat_map (line_text picks busy) (plain_lines those)) c.as_slice.ensures in
    let before : c.write_others.new.out ≡ c.write_lines.new.out ++ flat_map text (other_components (take place nodes)) =
    c.in_ok-write_others.ensures levels picks (fits-take levels c.first_place-place.result all fits_all) keeps
    ∙ ap₂ (λ (n : ℕ) those. c.write_lines.new.out ++ flat_map text (other_components (take n those))) here at in
    let within : c.write_rows.new.out ≡ c.write_others.new.out ++ flat_map text instances = c.in_ok-write_rows.ensures levels picks fit keeps in
    let behind : c.write_others-2.new.out ≡ c.write_rows.new.out ++ flat_map text (other_components (drop place nodes)) =
    c.in_ok-write_others-2.ensures levels picks (fits-take levels (length all - c.first_place-place.result) (drop c.first_place-place.result all) (fits-drop levels c.first_place-place.result all fits_all)) keeps
    ∙ ap (λ those. c.write_rows.new.out ++ flat_map text (other_components those)) (take_all (length all - c.first_place-place.result) (drop c.first_place-place.result all) (rest_size c.first_place-place.result all) ∙ ap₂ (λ (n : ℕ) those. drop n those) here at) in
    let inner : c.write_others-2.new.out ≡ c.write_lines.new.out ++ flat_map text (expanded_children instances nodes) =
    three-parts c.write_lines.new.out c.write_others.new.out c.write_rows.new.out c.write_others-2.new.out (flat_map text (other_components (take place nodes))) (flat_map text instances) (flat_map text (other_components (drop place nodes))) before within behind
    ∙ ap (λ those. c.write_lines.new.out ++ those) (sym (flat_map-append text (other_components (take place nodes)) (instances ++ other_components (drop place nodes))
    ∙ ap (λ those. flat_map text (other_components (take place nodes)) ++ those) (flat_map-append text instances (other_components (drop place nodes))))) in
    four-parts c.args.out.now c.write_mark.new.out c.write_lines.new.out c.write_others-2.new.out c.write_mark-2.new.out (written (codes "BEGIN:" ++ name)) (flat_map (line_text picks busy) (plain_lines (lines_of tree)))
    (flat_map text (expanded_children instances nodes)) (written (codes "END:" ++ name)) c.in_ok-write_mark.ensures own inner ended) c.write_mark-2.ensures
