use Rattle.std.proofs.Common.{arith}
use Rattle.std.proofs.lemmas.Int.{ints}
use Rattle.cal_model.specs.Ranges.Overlap.{seconds_of}
use Rattle.overlap_rules.proofs.Triggers.{forward_is, backward_is}
use Rattle.overlap_rules.proofs.alarm.some_trigger.Goals as goal

pub returns-then-gap-ge0 : goal.returns-then-gap-ge0
returns-then-gap-ge0 c =
    let gap = c.seconds_of-gap.ensures.value in
    forward_is c.some_rising.result c.args.first (seconds_of c.args.alarm.now.gap) c.args.alarm.now.repeat c.args.range.start.0 c.args.range.end.0
    c.some_rising.ensures.met c.some_rising.ensures.all (omega (arith, ints)) (omega (arith, ints)) (omega (arith, ints)) (omega (arith, ints))

pub returns-else-gap-ge0 : goal.returns-else-gap-ge0
returns-else-gap-ge0 c =
    let gap = c.seconds_of-gap.ensures.value in
    backward_is c.some_rising-else-gap-ge0.result c.args.first (seconds_of c.args.alarm.now.gap) c.args.alarm.now.repeat c.args.range.start.0 c.args.range.end.0
    c.some_rising-else-gap-ge0.ensures.met c.some_rising-else-gap-ge0.ensures.all (omega (arith, ints)) (omega (arith, ints)) (omega (arith, ints)) (omega (arith, ints)) (omega (arith, ints))
