use Rattle.std.proofs.Common.{◌++◌, ap, ◌∙◌}
use Rattle.std.specs.Prelude.{codes}
use Rattle.cal_model.specs.Selections.Expansion.{end_line}
use Rattle.cal_model.specs.Selections.RowLines.{new_line}
use Rattle.ical_objects.proofs.Printed.{OnOk-then}
use Rattle.expand_limit.specs.ShownTexts.{line_text}
use Rattle.expand_limit.proofs.MadeLines.{behind-both, behind-id, whole-moment}
use Rattle.expand_limit.proofs.instance.write_behind_start.Goals as goal

pub returns-then-instance : goal.returns-then-instance
returns-then-instance c = OnOk-then c.write_end.result (λ f levels picks busy kept.
    let text = line_text picks busy in
    f levels picks busy kept ∙ ap (λ those. those ++ text (end_line c.args.instance.component.now c.args.instance.row.now)) (c.in_ok-write_made.ensures levels picks busy kept ∙ ap (λ id. c.args.out.now ++ text (new_line (codes "RECURRENCE-ID") c.args.instance.row.now.id_kind id)) (whole-moment c.args.instance.row.now.id c.requires.id))
    ∙ behind-both text c.args.out.now c.args.instance c.if-not-instance.false c.if-instance.true) c.write_end.ensures

pub returns-else-instance : goal.returns-else-instance
returns-else-instance c = λ levels picks busy kept.
    c.in_ok-write_made.ensures levels picks busy kept
    ∙ ap (λ id. c.args.out.now ++ line_text picks busy (new_line (codes "RECURRENCE-ID") c.args.instance.row.now.id_kind id)) (whole-moment c.args.instance.row.now.id c.requires.id) ∙ behind-id (line_text picks busy) c.args.out.now c.args.instance c.if-not-instance.false c.if-instance.false
