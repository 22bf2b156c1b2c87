use Rattle.std.proofs.Common.{arith}
use Rattle.number_set.proofs.DescentLemmas.{one_at_least, height_below}
use Rattle.number_set.proofs.set.width_for.Goals as goal

pub overflow_add-high : goal.overflow_add-high
overflow_add-high c =
    let below = height_below c.loop-wide.high in
    let power = c.loop-wide.invariant.power in
    let fits = c.loop-wide.invariant.fits in
    omega arith

pub loop-wide-smaller : goal.loop-wide-smaller
loop-wide-smaller c =
    let one = one_at_least c.loop-wide.high in
    let power = c.loop-wide.invariant.power in
    omega arith
