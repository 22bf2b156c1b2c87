use Rattle.std.proofs.Common.{◌≡◌, suc, false, ◌++◌, refl, sym, ap, subst, ◌∙◌}
use Rattle.std.specs.Prelude.{flat_map, codes}
use Rattle.cal_base.specs.declared.line.Node.TheViews.{out-Node}
use Rattle.cal_base.specs.Lines.WrittenLines.{written}
use Rattle.cal_model.specs.Objects.ComponentLines.{name_of, lines_of, children_of}
use Rattle.cal_model.specs.Selections.Expansion.{instance_lines, plain_lines, plain}
use Rattle.cal_model.specs.Selections.Picks.{comp_picks}
use Rattle.ical_objects.specs.Printing.{ArePrintable, begin_line, end_line}
use Rattle.ical_objects.proofs.Printed.{IsPrintable_out, OnOk-then}
use Rattle.expand_limit.specs.KeptParts.{IsKept, IsKeptAs, leaves_out_as, inner_as, now_of}
use Rattle.expand_limit.specs.ShownTexts.{line_text, node_text}
use Rattle.expand_limit.proofs.KeptLemmas.{inner-kept}
use Rattle.expand_limit.proofs.ShownParts.{node_text-component}
use Rattle.expand_limit.proofs.PrintedParts.{printable-room, four-parts}
use Rattle.expand_limit.proofs.expand.write_instance.Goals as goal

pub write_mark-requires : goal.write_mark-requires
write_mark-requires c = (begin_line (out-Node c.args.node.now).name, refl, (IsPrintable_out c.requires.node.0 c.args.node.now c.requires.node.1).begin_read)

pub write_mark-requires-2 : goal.write_mark-requires-2
write_mark-requires-2 c = (end_line (out-Node c.args.node.now).name, refl, (IsPrintable_out c.requires.node.0 c.args.node.now c.requires.node.1).end_read)

pub write_children-requires : goal.write_children-requires
write_children-requires c =
    let room = printable-room c.requires.node.0 c.args.node.now c.requires.node.1 in
    (room.room, subst (ArePrintable room.room) (sym c.as_slice-4.ensures) room.fit)

pub returns : goal.returns
returns c = OnOk-then c.write_mark-2.result (λ ended levels picks fits keeps.
    let node = c.args.node.now in
    let object = c.args.expansion.now.object.now in
    let busy = c.args.expansion.now.busy in
    let name = name_of node in
    let wanted = flat_map (comp_picks name) picks in
    let around = now_of c.args.around in
    let room = printable-room levels node fits in
    let lines = instance_lines object c.args.component.now c.args.row.now (plain_lines (lines_of node)) in
    let stays : leaves_out_as around name ≡ false = ap (leaves_out_as around) (sym c.as_slice.ensures.octets) ∙ sym c.leaves_out.ensures ∙ c.if-leaves_out.false in
    let inside = inner-kept (suc room.room) around name picks (subst (λ n. IsKeptAs (suc n) around picks) room.same keeps) stays in
    let kept : IsKept (suc room.room) c.inner-kept.result wanted = subst (λ k. IsKeptAs (suc room.room) k wanted) (sym (c.inner-kept.ensures ∙ ap (inner_as around) c.as_slice-2.ensures.octets)) inside.1 in
    let own : c.write_row_lines.new.out ≡ c.write_mark.new.out ++ flat_map (line_text wanted busy) lines =
    c.in_ok-write_row_lines.ensures room.room wanted kept
    ∙ ap (λ those. c.write_mark.new.out ++ flat_map (line_text wanted busy) (instance_lines object c.args.component.now c.args.row.now (plain_lines those))) c.as_slice-3.ensures in
    let inner : c.write_children.new.out ≡ c.write_row_lines.new.out ++ flat_map (node_text wanted busy) (flat_map plain (children_of node)) =
    c.in_ok-write_children.ensures room.room wanted (subst (ArePrintable room.room) (sym c.as_slice-4.ensures) room.fit) kept
    ∙ ap (λ nodes. c.write_row_lines.new.out ++ flat_map (node_text wanted busy) (flat_map plain nodes)) c.as_slice-4.ensures in
    four-parts c.args.out.now c.write_mark.new.out c.write_row_lines.new.out c.write_children.new.out c.write_mark-2.new.out (written (codes "BEGIN:" ++ name)) (flat_map (line_text wanted busy) lines)
    (flat_map (node_text wanted busy) (flat_map plain (children_of node))) (written (codes "END:" ++ name)) c.in_ok-write_mark.ensures own inner ended
    ∙ ap (λ text. c.args.out.now ++ text) (sym (node_text-component picks busy name lines (flat_map plain (children_of node)) inside.0))) c.write_mark-2.ensures
