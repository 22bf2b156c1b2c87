use Rattle.std.proofs.Common.{◌≡◌, ◌+◌, ◌<◌, true, arith}
use Rattle.cal_moment.specs.Calendar.{month_of}
use Rattle.cal_model.proofs.Recurrence.Days.{NonePasses-joined}
use Rattle.rrule_step.specs.Sets.{has}
use Rattle.rrule_step.proofs.MonthLemmas.{month_bounds, month_at}
use Rattle.rrule_step.proofs.StepLemmas.{found_on_day, missed_on_day}
use Rattle.rrule_step.proofs.step.next_in_month.Goals as goal

pub days_of-days-requires-clause-listed : goal.days_of-days-requires-clause-listed
days_of-days-requires-clause-listed c = λ i lt.
    let month = month_at c.args.month.now i lt in
    let there : has c.args.plan.now.months (month_of (c.args.month.now.first + i)) ≡ true = rw month c.requires.listed in
    c.requires.plan.listed (c.args.month.now.first + i) there

pub days_of-days-requires-clause-sets : goal.days_of-days-requires-clause-sets
days_of-days-requires-clause-sets c = c.requires.plan.days

pub overflow_add-end : goal.overflow_add-end
overflow_add-end c = let bounds = month_bounds c.args.month.now in omega (arith, bounds)

pub overflow_add-day : goal.overflow_add-day
overflow_add-day c = let bounds = month_bounds c.args.month.now in let next = c.next_day-next.ensures in let to = next.to in omega (arith, bounds, to)

pub returns-in-Some : goal.returns-in-Some
returns-in-Some c =
    let bounds = month_bounds c.args.month.now in
    let next = c.next_day-next.ensures in
    let from = next.from in
    let to = next.to in
    let so_far = c.loop-day.invariant in
    let found = c.in-Some.ensures in
    let early : c.next_day-next.result < 767740 = omega (arith, bounds, to, c.if-next-end.false) in
    record {
      from_first = omega (arith, bounds, from, so_far);
      before_end = early;
      second_below = found.below;
      next = found_on_day c.args.rule.now c.args.plan.now c.args.from.day c.args.from.second c.next_day-next.result c.second_on.result (omega (arith, from, so_far)) c.second_on.ensures.same c.second_on.ensures.later
          (NonePasses-joined _ _ _ _ _ _ so_far.2 next.none) c.in-Some.second c.requires.second early found;
    }

pub loop-day-preserved : goal.loop-day-preserved
loop-day-preserved c =
    let next = c.next_day-next.ensures in
    let from = next.from in
    let so_far = c.loop-day.invariant in (
      omega (arith, from, so_far),
      omega (arith, from, so_far),
      missed_on_day c.args.rule.now c.args.plan.now c.args.from.day c.args.from.second c.next_day-next.result c.second_on.result (omega (arith, from, so_far)) c.second_on.ensures.same c.second_on.ensures.later
          (NonePasses-joined _ _ _ _ _ _ so_far.2 next.none) c.in-None.ensures,
    )
