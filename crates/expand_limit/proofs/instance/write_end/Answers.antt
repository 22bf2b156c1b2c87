use Rattle.std.proofs.Common.{◌++◌, sym, ap, ◌∙◌}
use Rattle.std.specs.Prelude.{codes}
use Rattle.cal_model.specs.Selections.RowLines.{new_line}
use Rattle.ical_objects.proofs.Printed.{OnOk-then}
use Rattle.expand_limit.specs.ShownTexts.{line_text}
use Rattle.expand_limit.proofs.MadeLines.{end_line-todo, end_line-other, apart-moments, whole-moment}
use Rattle.expand_limit.proofs.instance.write_end.Goals as goal

pub returns-in-Todo : goal.returns-in-Todo
returns-in-Todo c = OnOk-then c.write_made.result (λ f levels picks busy kept.
    let row = c.args.instance.row.now in
    f levels picks busy kept ∙ ap (λ seconds. c.args.out.now ++ line_text picks busy (new_line (codes "DUE") row.kind seconds)) (whole-moment row.end c.requires.end) ∙ ap (λ line. c.args.out.now ++ line_text picks busy line) (sym (end_line-todo c.args.instance.component.now row (apart-moments row.end row.start c.requires.end c.requires.start c.if-row.false) c.in-Todo.is))) c.write_made.ensures

pub returns-in_default : goal.returns-in_default
returns-in_default c = OnOk-then c.write_made-in_default.result (λ f levels picks busy kept.
    let row = c.args.instance.row.now in
    f levels picks busy kept ∙ ap (λ seconds. c.args.out.now ++ line_text picks busy (new_line (codes "DTEND") row.kind seconds)) (whole-moment row.end c.requires.end) ∙ ap (λ line. c.args.out.now ++ line_text picks busy line) (sym (end_line-other c.args.instance.component.now row (apart-moments row.end row.start c.requires.end c.requires.start c.if-row.false) c.in_default.not-Todo))) c.write_made-in_default.ensures
