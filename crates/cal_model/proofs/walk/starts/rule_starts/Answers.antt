use Rattle.std.proofs.Common.{◌++◌, ap, arith}
use Rattle.std.proofs.lemmas.List.{append-nil}
use Rattle.cal_model.specs.Values.LocalTimes.{moment_of_local}
use Rattle.cal_model.specs.Walks.Clocks.{reading_by}
use Rattle.cal_model.specs.Walks.KeptMoments.{starts_by}
use Rattle.cal_model.proofs.walk.starts.rule_starts.Goals as goal

pub sweep-init : goal.sweep-init
sweep-init g c = record {
  picks = c.begin_walk-walk.ensures.walk (reading_by c.args.clock.now).dated;
  all = ap (λ ms. c.args.out.now ++ starts_by (reading_by c.args.clock.now) ms) (c.begin_walk-walk.ensures.whole (reading_by c.args.clock.now) (moment_of_local c.args.high));
  steps = (let most = c.begin_walk-walk.ensures.steps (reading_by c.args.clock.now).dated (moment_of_local c.args.high) in omega (arith, most));
}

pub returns-in_default-clause-starts : goal.returns-in_default-clause-starts
returns-in_default-clause-starts g c =
    let none = rw c.in_default.is at c.in_ok-m.ensures.next in
    rw append-nil at (rw none at c.sweep.invariant.all)
