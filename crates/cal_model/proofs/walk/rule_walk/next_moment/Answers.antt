use Rattle.std.proofs.Common.{sym, ◌∙◌}
use Rattle.cal_model.specs.Values.LocalTimes.{moment_of_local}
use Rattle.cal_model.specs.Walks.Clocks.{reading_by}
use Rattle.cal_model.specs.Walks.PickedRest.{rest_of}
use Rattle.cal_model.proofs.Walks.WantedLemmas.{wanted-high}
use Rattle.cal_model.proofs.walk.rule_walk.next_moment.Goals as goal

pub returns-in_default-clause-next : goal.returns-in_default-clause-next
returns-in_default-clause-next g c =
    let past = rw c.in_default.is at c.in_ok-m.ensures.next in
    sym c.next.invariant.rest
    ∙ wanted-high c.args.rule.now (moment_of_local c.args.start) (reading_by c.args.clock.now) (moment_of_local c.args.low) (moment_of_local c.args.high) c.next.walk.left (rest_of c.args.rule.now (moment_of_local c.args.start) (reading_by c.args.clock.now) c.next.walk.picks) past
