use Rattle.std.proofs.Common.{◌∙◌}
use Rattle.std.proofs.lemmas.Result.{IfOk-weaker}
use Rattle.cal_model.proofs.Filters.MatchingLaws.{matches-enough_rows_of_object}
use Rattle.filter_eval.proofs.prepared.Prepared.matches.Goals as goal

pub returns-clause-whole : goal.returns-clause-whole
returns-clause-whole c = IfOk-weaker c.matches_rows.result _ _
    (λ matches is enough. is ∙ matches-enough_rows_of_object c.args.self.now c.args.object.now c.args.zone.now c.args.rows.now enough.of_object enough.meeting)
    c.matches_rows.ensures
