use Rattle.std.proofs.Common.{◌≡◌, ◌+◌, ◌*◌, ◌<◌, ◌≤◌, arith}
use Rattle.rrule_step.specs.Periods.{month_begin}
use Rattle.rrule_step.proofs.MonthLemmas.{month_next}
use Rattle.rrule_step.proofs.step.next_moment.Goals as goal

pub loop-month-preserved-in-None : goal.loop-month-preserved-in-None
loop-month-preserved-in-None c =
    let made = c.new-days.ensures in
    let so_far = c.loop-month.invariant in
    let next = month_next c.new-days.result c.loop-month.month made.year made.month in
    (omega (arith, so_far), omega (arith, so_far), rw next c.in-None.ensures)
