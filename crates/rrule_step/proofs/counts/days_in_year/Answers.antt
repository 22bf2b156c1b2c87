use Rattle.std.proofs.Common.{◌≡◌, ◌+◌, ◌*◌, ◌∙◌, sym, ap, arith}
use Rattle.cal_moment.specs.Calendar.{first_of_year}
use Rattle.cal_model.specs.Recurrence.Passing.{day_passes}
use Rattle.cal_model.proofs.Words.CountedRuns.{count_in, count_in-all, count_in-cut}
use Rattle.rrule_step.specs.Periods.{month_begin}
use Rattle.rrule_step.proofs.CountLemmas.{january, months_rise, months_rise_by}
use Rattle.rrule_step.proofs.counts.days_in_year.Goals as goal

pub loop-month-init : goal.loop-month-init
loop-month-init c =
    let at : 12 * c.args.year + 0 ≡ 12 * c.args.year = omega arith in
    let none = count_in-all (day_passes c.args.rule.now c.args.plan.now.start.day) (month_begin (12 * c.args.year)) (month_begin (12 * c.args.year)) in
    record { counted = rw at (omega (arith, none)); bound = omega arith }

pub overflow_add-days : goal.overflow_add-days
overflow_add-days c =
    let bound = c.loop-month.invariant.bound in
    let one = c.days_in_month-days.ensures.bound in
    omega (arith, bound, one)

pub loop-month-preserved : goal.loop-month-preserved
loop-month-preserved c =
    let at : 12 * c.args.year + (c.loop-month.month + 1) ≡ 12 * c.args.year + c.loop-month.month + 1 = omega arith in
    let cut = count_in-cut (day_passes c.args.rule.now c.args.plan.now.start.day) (month_begin (12 * c.args.year)) (month_begin (12 * c.args.year + c.loop-month.month)) (month_begin (12 * c.args.year + c.loop-month.month + 1)) (months_rise_by (12 * c.args.year) c.loop-month.month) (months_rise (12 * c.args.year + c.loop-month.month)) in
    let so_far = c.loop-month.invariant.counted in
    let bound = c.loop-month.invariant.bound in
    let one = c.days_in_month-days.ensures.most in
    let few = c.days_in_month-days.ensures.bound in
    record { counted = rw at (omega (arith, cut, so_far, one)); bound = omega (arith, bound, few) }

pub returns : goal.returns
returns c =
    let months : c.loop-month.month ≡ 12 = omega arith in
    let at : 12 * c.args.year + c.loop-month.month ≡ 12 * (c.args.year + 1) = omega (arith, months) in
    let last : month_begin (12 * c.args.year + c.loop-month.month) ≡ first_of_year (c.args.year + 1) = ap month_begin at ∙ january (c.args.year + 1) in
    let same = ap (λ a. count_in (day_passes c.args.rule.now c.args.plan.now.start.day) a (first_of_year (c.args.year + 1))) (sym (january c.args.year))
    ∙ ap (λ b. count_in (day_passes c.args.rule.now c.args.plan.now.start.day) (month_begin (12 * c.args.year)) b) (sym last) in
    let so_far = c.loop-month.invariant.counted in
    omega (arith, same, so_far)
