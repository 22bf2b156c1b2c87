use Rattle.std.proofs.Common.{◌≡◌, ℕ, suc, ◌<◌, false, ◌++◌, length, take, refl, sym, ap, subst, ◌∙◌}
use Rattle.std.specs.Prelude.{◌&&◌, flat_map, codes}
use Rattle.std.proofs.lemmas.Bool.{and_left, and_right}
use Rattle.std.proofs.lemmas.List.{take_all}
use Rattle.cal_base.specs.Lines.WrittenLines.{written}
use Rattle.cal_base.specs.declared.line.Node.TheViews.{out-Node}
use Rattle.cal_model.specs.Objects.ComponentLines.{name_of, lines_of, children_of}
use Rattle.cal_model.specs.Selections.Picks.{comp_picks}
use Rattle.ical_objects.specs.Printing.{ArePrintable, begin_line, end_line}
use Rattle.ical_objects.proofs.Printed.{IsPrintable_out, ArePrintable-at, OnOk-then}
use Rattle.expand_limit.specs.KeptParts.{IsKept, IsKeptAs, leaves_out_as, inner_as, now_of}
use Rattle.expand_limit.specs.ShownTexts.{line_text, node_text, seen_lines, seen_nodes}
use Rattle.expand_limit.proofs.KeptLemmas.{inner-kept}
use Rattle.expand_limit.proofs.ShownParts.{child-text, is_zone}
use Rattle.expand_limit.proofs.PrintedParts.{printable-room, next-text, four-parts}
use Rattle.expand_limit.proofs.tree.+write_child.Goals as goal
use Rattle.expand_limit.proofs.tree.+write_child.Goals.{else-options-via-then-options+else-is_time_zone, else-options-via-else-options}

pub write_mark-requires : goal.write_mark-requires
write_mark-requires t c = (begin_line (out-Node c.args.node.now).name, refl, (IsPrintable_out c.requires.0 c.args.node.now c.requires.1).begin_read)

pub write_mark-requires-2 : goal.write_mark-requires-2
write_mark-requires-2 t c = (end_line (out-Node c.args.node.now).name, refl, (IsPrintable_out c.requires.0 c.args.node.now c.requires.1).end_read)

pub children-preserved : goal.children-preserved
children-preserved t c =
    let nodes = c.as_slice-child-items.result.now in
    let child = c.child-item.result in
    let i = c.children.child-index in
    let within : i < length nodes = c.children-test.true in
    let held = c.children.invariant in
    let rest = λ (levels : ℕ) (all : ArePrintable levels nodes). ArePrintable-at levels nodes i child (held.fit levels all) within c.child-item.is in
    record {
      some = (held.some.0, (ArePrintable-at held.some.0 nodes i child held.some.1 within c.child-item.is).1);
      fit = λ levels all. (rest levels all).1;
      text = λ levels picks all keeps.
          next-text (node_text picks c.args.options.busy) c.args.options.plain c.write_lines.new.out c.children.out c.write_child.new.out nodes i child within c.child-item.is
          (held.text levels picks all keeps) (c.in_ok-write_child.ensures levels picks (rest levels all).0 keeps);
    }

pub returns : goal.returns
returns t c = OnOk-then c.write_mark-2.result (λ ended levels picks fits keeps.
    let node = c.args.node.now in
    let plain = c.args.options.plain in
    let busy = c.args.options.busy in
    let name = name_of node in
    let wanted = flat_map (comp_picks name) picks in
    let around = now_of c.args.around in
    let room = printable-room levels node fits in
    let stays : leaves_out_as around name ≡ false = ap (leaves_out_as around) (sym c.as_slice.ensures.octets) ∙ sym c.leaves_out.ensures ∙ c.if-leaves_out.false in
    let inside = inner-kept (suc room.room) around name picks (subst (λ n. IsKeptAs (suc n) around picks) room.same keeps) stays in
    let kept : IsKept (suc room.room) c.inner-kept.result wanted = subst (λ k. IsKeptAs (suc room.room) k wanted) (sym (c.inner-kept.ensures ∙ ap (inner_as around) c.as_slice-2.ensures.octets)) inside.1 in
    let seen : (plain && is_zone node) ≡ false = elim c.else-options.branch [
      | else-options-via-then-options+else-is_time_zone w ↦ and_right plain (is_zone node) (sym w.is_time_zone.ensures ∙ w.if-is_time_zone.false)
      | else-options-via-else-options w ↦ and_left plain (is_zone node) w.if-options.false
    ] in
    let items = c.as_slice-child-items.result.now in
    let all : take c.children.child-index items ≡ children_of node = take_all c.children.child-index items c.children-test.false ∙ c.as_slice-child-items.ensures in
    let own : c.write_lines.new.out ≡ c.write_mark.new.out ++ flat_map (line_text wanted busy) (seen_lines plain (lines_of node)) =
    c.in_ok-write_lines.ensures room.room wanted kept ∙ ap (λ lines. c.write_mark.new.out ++ flat_map (line_text wanted busy) (seen_lines plain lines)) c.as_slice-3.ensures in
    let inner : c.children.out ≡ c.write_lines.new.out ++ flat_map (node_text wanted busy) (seen_nodes plain (children_of node)) =
    c.children.invariant.text room.room wanted (subst (ArePrintable room.room) (sym c.as_slice-child-items.ensures) room.fit) kept
    ∙ ap (λ nodes. c.write_lines.new.out ++ flat_map (node_text wanted busy) (seen_nodes plain nodes)) all in
    four-parts c.args.out.now c.write_mark.new.out c.write_lines.new.out c.children.out c.write_mark-2.new.out (written (codes "BEGIN:" ++ name)) (flat_map (line_text wanted busy) (seen_lines plain (lines_of node)))
    (flat_map (node_text wanted busy) (seen_nodes plain (children_of node))) (written (codes "END:" ++ name)) c.in_ok-write_mark.ensures own inner ended
    ∙ ap (λ text. c.args.out.now ++ text) (sym (child-text picks busy plain node seen inside.0))) c.write_mark-2.ensures
