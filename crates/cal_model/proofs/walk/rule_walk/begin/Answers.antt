use Rattle.std.proofs.Common.{◌≡◌, ◌*◌, [], sym, ap, ◌∙◌, arith, true}
use Rattle.std.proofs.lemmas.Int.{ints}
use Rattle.cal_model.specs.Values.LocalTimes.{moment_of_local}
use Rattle.cal_model.specs.Words.Lists.{is_empty}
use Rattle.cal_model.specs.Walks.KeptMoments.{one_less}
use Rattle.cal_model.specs.Walks.KeptMoments.{kept_from, wanted}
use Rattle.cal_model.specs.Recurrence.NextPassing.{end_day}
use Rattle.cal_model.proofs.Walks.BeginLemmas.{begin_plain, begin_period}
use Rattle.cal_model.proofs.Walks.KeptLemmas.{kept_from-end}
use Rattle.cal_model.proofs.walk.rule_walk.begin.Goals as goal

pub returns-then-picks_nothing-clause-same : goal.returns-then-picks_nothing-clause-same
returns-then-picks_nothing-clause-same c = λ reading high.
    let nothing = c.picks_nothing.ensures c.if-picks_nothing.true (moment_of_local c.args.start) reading in
    let end : kept_from c.args.rule.now (moment_of_local c.args.start) reading (86400 * end_day) ≡ [] = kept_from-end c.args.rule.now (moment_of_local c.args.start) reading in
    ap (wanted c.args.rule.now (moment_of_local c.args.start) reading (moment_of_local c.args.low) high (one_less c.args.rule.now.count)) (nothing ∙ sym end)

pub returns-then-is_empty-clause-same : goal.returns-then-is_empty-clause-same
returns-then-is_empty-clause-same c = λ reading high.
    let none : is_empty c.args.rule.now.by_set_pos ≡ true = sym c.is_empty.ensures ∙ c.if-is_empty.true in
    let from = c.first_counted-from.ensures.written.from_first in
    begin_plain c.args.rule.now (moment_of_local c.args.start) reading (moment_of_local c.args.low) high (one_less c.args.rule.now.count) (moment_of_local c.first_counted-from.result) none (omega (arith, ints, from)) c.first_counted-from.ensures.within c.first_counted-from.ensures.which

pub returns-clause-same : goal.returns-clause-same
returns-clause-same c = λ reading high.
    let from = c.period_begin.ensures.written.from_first in
    begin_period c.args.rule.now (moment_of_local c.args.start) reading (moment_of_local c.args.low) high (one_less c.args.rule.now.count) (moment_of_local c.first_counted-from.result) (moment_of_local c.period_begin.result) c.period_begin.ensures.first c.period_begin.ensures.before (omega (arith, ints, from)) c.first_counted-from.ensures.within c.first_counted-from.ensures.which
