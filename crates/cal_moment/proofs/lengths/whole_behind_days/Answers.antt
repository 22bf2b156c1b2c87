use Rattle.std.proofs.Common.{◌∙◌, sym}
use Rattle.std.proofs.lemmas.Result.{MatchResult-weaker}
use Rattle.cal_moment.proofs.BodyLemmas.{days_stop_letter, days_stop_times}
use Rattle.cal_moment.proofs.Fronts.{not_empty}
use Rattle.cal_moment.proofs.lengths.whole_behind_days.Goals as goal

pub returns-in_default-clause-err : goal.returns-in_default-clause-err
returns-in_default-clause-err c =
    days_stop_letter c.args.text.now (not_empty c.args.text.now (sym c.is_empty.ensures ∙ c.if-is_empty.false)) c.in_default.ensures.none

pub returns-clause-err : goal.returns-clause-err
returns-clause-err c =
    MatchResult-weaker c.whole_times.result c.whole_times.ensures.err (λ seconds any. any)
    (λ left s. rw c.in-Some.ensures.some (days_stop_times c.in-Some.times.now left.now s))
