use Rattle.std.proofs.Common.{◌≡◌, ◌<◌, ◌++◌, length, map, take, refl, ap, ◌∙◌, subst}
use Rattle.std.specs.Prelude.{flat_map}
use Rattle.std.specs.List.{concat}
use Rattle.std.proofs.lemmas.List.{take_all}
use Rattle.cal_base.specs.declared.line.Node.TheViews.{out-Node}
use Rattle.cal_base.specs.Lines.ComponentTrees.{printed}
use Rattle.cal_base.specs.Lines.WrittenLines.{written_line}
use Rattle.ical_objects.specs.Printing.{AddsLines, begin_line, end_line}
use Rattle.ical_objects.proofs.PrintedTrees.{lines_of_trees}
use Rattle.ical_objects.proofs.Printed.{IsPrintable_out, ArePrintable-at, text_more, lines_more, text_of_parts, lines_of_parts, OnOk-then}
use Rattle.ical_objects.proofs.to_text.+write_component.Goals as goal

pub write_mark-requires : goal.write_mark-requires
write_mark-requires t c = (begin_line (out-Node c.args.node.now).name, refl, (IsPrintable_out c.requires.0 c.args.node.now c.requires.1).begin_read)

pub write_mark-requires-2 : goal.write_mark-requires-2
write_mark-requires-2 t c = (end_line (out-Node c.args.node.now).name, refl, (IsPrintable_out c.requires.0 c.args.node.now c.requires.1).end_read)

pub children-preserved : goal.children-preserved
children-preserved t c =
    let nodes = c.as_slice-child-items.result.now in
    let child = c.child-item.result in
    let within : c.children.child-index < length nodes = c.children-test.true in
    record {
      text = text_more c.write_lines.new.out c.children.out c.write_component.new.out nodes c.children.child-index child within c.child-item.is c.children.invariant.text c.in_ok-write_component.ensures.text;
      lines = lines_more c.write_lines.new.out c.children.out c.write_component.new.out nodes c.children.child-index child within c.child-item.is c.children.invariant.lines c.in_ok-write_component.ensures.lines;
      fit = (c.children.invariant.fit.0, (ArePrintable-at c.children.invariant.fit.0 nodes c.children.child-index child c.children.invariant.fit.1 within c.child-item.is).1);
    }

pub returns-clause-text : goal.returns-clause-text
returns-clause-text t c =
    let node = c.args.node.now in
    let all : take c.children.child-index c.as_slice-child-items.result.now ≡ (out-Node node).children =
    take_all c.children.child-index c.as_slice-child-items.result.now c.children-test.false ∙ c.as_slice-child-items.ensures in
    let own : c.write_lines.new.out ≡ c.write_mark.new.out ++ flat_map written_line (out-Node node).lines =
    c.in_ok-write_lines.ensures.text ∙ ap (λ lines. c.write_mark.new.out ++ flat_map written_line lines) c.as_slice.ensures in
    let inside : c.children.out ≡ c.write_lines.new.out ++ concat (map printed (out-Node node).children) =
    c.children.invariant.text ∙ ap (λ nodes. c.write_lines.new.out ++ concat (map printed nodes)) all in
    OnOk-then c.write_mark-2.result (text_of_parts node c.args.out.now c.write_mark.new.out c.write_lines.new.out c.children.out c.write_mark-2.new.out c.in_ok-write_mark.ensures.text own inside) c.write_mark-2.ensures.text

pub returns-clause-lines : goal.returns-clause-lines
returns-clause-lines t c =
    let node = c.args.node.now in
    let parts = IsPrintable_out c.requires.0 node c.requires.1 in
    let all : take c.children.child-index c.as_slice-child-items.result.now ≡ (out-Node node).children =
    take_all c.children.child-index c.as_slice-child-items.result.now c.children-test.false ∙ c.as_slice-child-items.ensures in
    let begin = c.in_ok-write_mark.ensures.lines (begin_line (out-Node node).name) refl parts.begin_read in
    let own = subst (λ lines. AddsLines c.write_mark.new.out lines c.write_lines.new.out) c.as_slice.ensures c.in_ok-write_lines.ensures.lines in
    let inside = subst (λ nodes. AddsLines c.write_lines.new.out (lines_of_trees nodes) c.children.out) all c.children.invariant.lines in
    OnOk-then c.write_mark-2.result
    (λ adds. lines_of_parts node c.args.out.now c.write_mark.new.out c.write_lines.new.out c.children.out c.write_mark-2.new.out begin own inside (adds (end_line (out-Node node).name) refl parts.end_read))
    c.write_mark-2.ensures.lines
