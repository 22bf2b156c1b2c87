use Rattle.std.proofs.Common.{◌≡◌, suc, ◌++◌, refl, sym, ap, subst, ◌∙◌, arith}
use Rattle.std.specs.Prelude.{flat_map, codes}
use Rattle.cal_base.specs.declared.line.Node.TheViews.{out-Node}
use Rattle.cal_base.specs.Lines.WrittenLines.{written}
use Rattle.cal_model.specs.Objects.ComponentLines.{name_of, lines_of, children_of}
use Rattle.ical_objects.specs.Printing.{ArePrintable, begin_line, end_line}
use Rattle.ical_objects.proofs.Printed.{IsPrintable_out, OnOk-then}
use Rattle.expand_limit.specs.SeenRows.{left_nodes}
use Rattle.expand_limit.specs.ShownTexts.{line_text, node_text}
use Rattle.expand_limit.proofs.PrintedParts.{printable-room, four-parts}
use Rattle.expand_limit.proofs.left.write_without.Goals as goal

pub write_mark-requires : goal.write_mark-requires
write_mark-requires c = (begin_line (out-Node c.args.tree.now).name, refl, (IsPrintable_out c.requires.0 c.args.tree.now c.requires.1).begin_read)

pub write_mark-requires-2 : goal.write_mark-requires-2
write_mark-requires-2 c = (end_line (out-Node c.args.tree.now).name, refl, (IsPrintable_out c.requires.0 c.args.tree.now c.requires.1).end_read)

pub write_left-requires-clause-nodes : goal.write_left-requires-clause-nodes
write_left-requires-clause-nodes c =
    let room = printable-room c.requires.0 c.args.tree.now c.requires.1 in
    (room.room, subst (ArePrintable room.room) (sym c.as_slice-2.ensures) room.fit)

pub returns : goal.returns
returns c = OnOk-then c.write_mark-2.result (λ ended levels picks fits keeps.
    let tree = c.args.tree.now in
    let busy = c.args.busy in
    let name = name_of tree in
    let room = printable-room (suc levels) tree fits in
    let below = room.same in
    let same : room.room ≡ levels = omega (arith, below) in
    let fit : ArePrintable levels (children_of tree) = subst (λ n. ArePrintable n (children_of tree)) same room.fit in
    let own : c.write_lines.new.out ≡ c.write_mark.new.out ++ flat_map (line_text picks busy) (lines_of tree) =
    c.in_ok-write_lines.ensures levels picks keeps ∙ ap (λ those. c.write_mark.new.out ++ flat_map (line_text picks busy) those) c.as_slice.ensures in
    let inner : c.write_left.new.out ≡ c.write_lines.new.out ++ flat_map (node_text picks busy) (left_nodes c.args.gone.now 0 (children_of tree)) =
    c.in_ok-write_left.ensures levels picks (subst (ArePrintable levels) (sym c.as_slice-2.ensures) fit) keeps
    ∙ ap (λ those. c.write_lines.new.out ++ flat_map (node_text picks busy) (left_nodes c.args.gone.now 0 those)) c.as_slice-2.ensures in
    four-parts c.args.out.now c.write_mark.new.out c.write_lines.new.out c.write_left.new.out c.write_mark-2.new.out (written (codes "BEGIN:" ++ name)) (flat_map (line_text picks busy) (lines_of tree))
    (flat_map (node_text picks busy) (left_nodes c.args.gone.now 0 (children_of tree))) (written (codes "END:" ++ name)) c.in_ok-write_mark.ensures own inner ended) c.write_mark-2.ensures
