use Rattle.std.proofs.Common.{◌∙◌, ap, length}
use Rattle.cal_model.specs.Instances.Rows.{rows}
use Rattle.cal_model.specs.Refusals.Preconditions.{has_too_many}
use Rattle.ics_tool.specs.RowTexts.{summary_line}
use Rattle.ics_tool.proofs.AnswerLaws.{listed_few, listed_many}
use Rattle.ics_tool.proofs.summing.object_summary.Goals as goal

pub returns-in-Ok : goal.returns-in-Ok
returns-in-Ok c =
    let object = c.args.object.now in
    listed_few (has_too_many object) (summary_line object.kind object.uid (length (rows object))) c.in-Ok.text c.in-Within.ensures.0
    (c.in-Ok.ensures ∙ ap (summary_line object.kind object.uid) c.in-Within.ensures.1)

pub returns-in-Over : goal.returns-in-Over
returns-in-Over c = let object = c.args.object.now in listed_many (has_too_many object) (summary_line object.kind object.uid (length (rows object))) c.in-Over.ensures
