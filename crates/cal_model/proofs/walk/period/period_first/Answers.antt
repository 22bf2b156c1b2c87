use Rattle.std.proofs.Common.{◌*◌, ◌∙◌, ap}
use Rattle.cal_model.specs.Values.LocalTimes.{moment_of_local}
use Rattle.cal_model.proofs.Walks.BeginLemmas.{year_first}
use Rattle.cal_model.proofs.walk.period.period_first.Goals as goal

pub returns-in-Monthly-clause-first : goal.returns-in-Monthly-clause-first
returns-in-Monthly-clause-first c =
    year_first c.args.rule.now c.year_begin.result.0 (moment_of_local c.midnight-in-Monthly.result) (c.midnight-in-Monthly.ensures.value ∙ ap (λ d. 86400 * d) c.year_begin.ensures.year) c.in-Monthly.is
