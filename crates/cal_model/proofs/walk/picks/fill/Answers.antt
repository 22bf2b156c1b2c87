use Rattle.std.proofs.Common.{◌≡◌, sym, ◌∙◌, ap, ◌++◌}
use Rattle.cal_model.specs.Recurrence.RecurrenceSet.{at_places}
use Rattle.cal_model.specs.Values.LocalTimes.{moment_of_local}
use Rattle.cal_model.specs.Walks.Clocks.{reading_by}
use Rattle.cal_model.specs.Walks.KeptMoments.{moments_of, number_of, kept_from}
use Rattle.cal_model.proofs.Walks.KeptLemmas.{kept_from-gathered, Rises-gathered}
use Rattle.cal_model.proofs.walk.picks.fill.Goals as goal

pub pick-requires-clause-rises : goal.pick-requires-clause-rises
pick-requires-clause-rises g c =
    Rises-gathered c.args.rule.now (moment_of_local c.args.start) (reading_by c.args.clock.now) (moments_of c.gather_period.new.picks.found) (moment_of_local c.args.picks.now.cursor.at) (moment_of_local c.gather_period.new.picks.cursor.at) c.in_ok-gather_period.ensures.found

pub pick-requires-clause-one : goal.pick-requires-clause-one
pick-requires-clause-one g c = (number_of c.args.rule.now (moment_of_local c.args.picks.now.cursor.at), c.in_ok-gather_period.ensures.one)

pub returns-clause-kept : goal.returns-clause-kept
returns-clause-kept g c =
    let within = c.in_ok-gather_period.ensures.cursor.within in
    let whole = kept_from-gathered c.args.rule.now (moment_of_local c.args.start) (reading_by c.args.clock.now) (moments_of c.gather_period.new.picks.found) (moment_of_local c.args.picks.now.cursor.at) (moment_of_local c.gather_period.new.picks.cursor.at) (number_of c.args.rule.now (moment_of_local c.args.picks.now.cursor.at))
    c.in_ok-gather_period.ensures.forward within c.in_ok-gather_period.ensures.found c.in_ok-gather_period.ensures.one c.in_ok-gather_period.ensures.later in
    let picked : moments_of c.pick.new.out ≡ at_places c.args.rule.now (moments_of c.gather_period.new.picks.found) = c.in_ok-pick.ensures.picked ∙ ap (λ ls. moments_of ls ++ at_places c.args.rule.now (moments_of c.gather_period.new.picks.found)) c.truncate-2.ensures in
    whole ∙ ap (λ xs. xs ++ kept_from c.args.rule.now (moment_of_local c.args.start) (reading_by c.args.clock.now) (moment_of_local c.gather_period.new.picks.cursor.at)) (sym picked)
