use Rattle.std.proofs.Common.{◌++◌, sym, ap, ◌∙◌, append-nil}
use Rattle.std.specs.Prelude.{flat_map}
use Rattle.cal_model.specs.Selections.RowLines.{rewritten}
use Rattle.ical_objects.proofs.Printed.{OnOk-then}
use Rattle.expand_limit.specs.ShownTexts.{line_text}
use Rattle.expand_limit.proofs.LineCases.{line-end, line-id}
use Rattle.expand_limit.proofs.MadeLines.{whole-moment}
use Rattle.expand_limit.proofs.instance.write_line.Goals as goal

pub returns-then-is_end : goal.returns-then-is_end
returns-then-is_end c = OnOk-then c.write_changed.result (λ f levels picks kept.
    let text = line_text picks c.args.busy in
    let row = c.args.instance.row.now in
    f levels picks c.args.busy kept ∙ ap (λ end. c.args.out.now ++ text (rewritten row.kind end c.args.line.now)) (whole-moment row.end c.requires.row.end) ∙ ap (λ those. c.args.out.now ++ those) (sym (ap (flat_map text) (line-end c.args.instance c.args.line.now (sym c.is_named.ensures ∙ c.if-is_named.false) (sym c.is_end.ensures ∙ c.if-is_end.true)) ∙ append-nil (text (rewritten row.kind row.end c.args.line.now))))) c.write_changed.ensures

pub returns-then-is_named-2 : goal.returns-then-is_named-2
returns-then-is_named-2 c = OnOk-then c.write_changed-then-is_named-2.result (λ f levels picks kept.
    let text = line_text picks c.args.busy in
    let row = c.args.instance.row.now in
    f levels picks c.args.busy kept ∙ ap (λ id. c.args.out.now ++ text (rewritten row.id_kind id c.args.line.now)) (whole-moment row.id c.requires.row.id) ∙ ap (λ those. c.args.out.now ++ those)
    (sym (ap (flat_map text) (line-id c.args.instance c.args.line.now (sym c.is_named.ensures ∙ c.if-is_named.false) (sym c.is_end.ensures ∙ c.if-is_end.false) (sym c.is_named-else-is_end.ensures ∙ c.if-is_named-2.true)) ∙ append-nil (text (rewritten row.id_kind row.id c.args.line.now))))) c.write_changed-then-is_named-2.ensures
