use Rattle.std.proofs.Common.{◌∙◌, sym}
use Rattle.ics_tool.proofs.AnswerLaws.{counted-coarse, counted-fine}
use Rattle.ics_tool.proofs.listing.rows_counted.Goals as goal

pub returns-then-has_fine_rule : goal.returns-then-has_fine_rule
returns-then-has_fine_rule c = counted-fine c.args.object.now (sym c.has_fine_rule.ensures ∙ c.if-has_fine_rule.true)

pub returns : goal.returns
returns c = counted-coarse c.args.object.now c.count_rows.result (sym c.has_fine_rule.ensures ∙ c.if-has_fine_rule.false) c.count_rows.ensures
