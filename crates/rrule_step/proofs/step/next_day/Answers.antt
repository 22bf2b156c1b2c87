use Rattle.std.proofs.Common.{◌≡◌, ◌+◌, ◌-◌, ◌*◌, ◌<◌, ◌≤◌, ◌∙◌, sym, arith}
use Rattle.cal_model.specs.Recurrence.Passing.{day_passes}
use Rattle.cal_model.proofs.Recurrence.Days.{NonePasses-joined}
use Rattle.rrule_step.specs.Sets.{has}
use Rattle.rrule_step.proofs.MonthLemmas.{month_bounds}
use Rattle.rrule_step.proofs.StepLemmas.{uncounted, days_missed}
use Rattle.rrule_step.proofs.step.next_day.Goals as goal

pub overflow_add-end : goal.overflow_add-end
overflow_add-end c = let bounds = month_bounds c.args.month.now in omega (arith, bounds)

pub counted_day-counted-requires-clause-day : goal.counted_day-counted-requires-clause-day
counted_day-counted-requires-clause-day c =
    let bounds = month_bounds c.args.month.now in (omega (arith, bounds, c.requires.within), omega (arith, bounds, c.requires.within))

pub overflow_add-result : goal.overflow_add-result
overflow_add-result c =
    let bounds = month_bounds c.args.month.now in let found = c.in-Some.ensures in let below = found.below in omega (arith, bounds, below)

pub returns-in-Some-clause-none : goal.returns-in-Some-clause-none
returns-in-Some-clause-none c =
    let found = c.in-Some.ensures in
    let below = found.below in
    let counted = c.counted_day-counted.ensures in
    NonePasses-joined _ _ _ _ (86400 * c.counted_day-counted.result) _
    (uncounted c.args.rule.now c.args.plan.now c.requires.plan (86400 * c.args.day) (86400 * c.counted_day-counted.result) counted.none)
    (days_missed c.args.rule.now c.args.plan.now c.requires.plan c.counted_day-counted.result (c.args.month.now.first + c.in-Some.place) (λ d low high.
    let from = counted.from in
    let at : c.args.month.now.first + (d - c.args.month.now.first) ≡ d = omega (arith, low, from, c.requires.within) in
    let is = c.requires.set (d - c.args.month.now.first) (omega (arith, low, from, high, below, c.requires.within)) in
    let out = found.none_before.each (d - c.args.month.now.first) (omega (arith, low)) (omega (arith, low, from, high, c.requires.within)) in
    rw at at (sym is ∙ out)))

pub returns-in-None-clause-none : goal.returns-in-None-clause-none
returns-in-None-clause-none c =
    let none = c.in-None.ensures in
    let counted = c.counted_day-counted.ensures in
    NonePasses-joined _ _ _ _ (86400 * c.counted_day-counted.result) _
    (uncounted c.args.rule.now c.args.plan.now c.requires.plan (86400 * c.args.day) (86400 * c.counted_day-counted.result) counted.none)
    (days_missed c.args.rule.now c.args.plan.now c.requires.plan c.counted_day-counted.result (c.args.month.now.first + c.args.month.now.size) (λ d low high.
    let from = counted.from in
    let at : c.args.month.now.first + (d - c.args.month.now.first) ≡ d = omega (arith, low, from, c.requires.within) in
    let is = c.requires.set (d - c.args.month.now.first) (omega (arith, low, from, high, c.requires.within)) in
    let out = none.each (d - c.args.month.now.first) (omega (arith, low)) (omega (arith, low, from, high, c.requires.within)) in
    rw at at (sym is ∙ out)))
