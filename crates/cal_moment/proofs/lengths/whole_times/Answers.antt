use Rattle.std.proofs.lemmas.Result.{MatchResult-weaker}
use Rattle.cal_moment.proofs.PartLemmas.{times_join, times_stop_behind, times_stop_count}
use Rattle.cal_moment.proofs.lengths.whole_times.Goals as goal

pub returns-in_default-clause-err : goal.returns-in_default-clause-err
returns-in_default-clause-err c = times_stop_count c.args.text.now c.in_default.ensures.none

pub returns-clause-ok : goal.returns-clause-ok
returns-clause-ok c =
    MatchResult-weaker c.parts_behind.result c.parts_behind.ensures.ok
    (λ seconds behind. times_join c.args.text.now c.in-Some.number c.in-Some.rest.now seconds c.in-Some.ensures.some behind)
    (λ left any. any)

pub returns-clause-err : goal.returns-clause-err
returns-clause-err c =
    MatchResult-weaker c.parts_behind.result c.parts_behind.ensures.err (λ seconds any. any)
    (λ left s. times_stop_behind c.args.text.now c.in-Some.number c.in-Some.rest.now left.now c.in-Some.ensures.some s)
