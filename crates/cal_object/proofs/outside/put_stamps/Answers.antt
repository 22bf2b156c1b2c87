use Rattle.std.proofs.Common.{◌++◌, flat_map}
use Rattle.cal_model.specs.Objects.DatedLines as dated
use Rattle.cal_object.proofs.ListSteps.{gathered}
use Rattle.cal_object.proofs.outside.put_stamps.Goals as goal

pub periods-preserved : goal.periods-preserved
periods-preserved c =
    let e = c.in-Some.ensures.cases.0 in
    gathered c.periods.stamps c.put_period.new.stamps (dated.stamps_of_period c.in-Some.period.now) (flat_map dated.stamps_of_period c.in-Some.behind.now)
    (c.args.stamps.now ++ flat_map dated.stamps_of_period c.args.periods.now) c.in_ok-put_period.ensures (rw e at c.periods.invariant)
