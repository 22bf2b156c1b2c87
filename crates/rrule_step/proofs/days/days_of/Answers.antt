use Rattle.std.proofs.Common.{◌∙◌, refl}
use Rattle.cal_model.specs.Recurrence.Passing.{day_passes}
use Rattle.rrule_step.proofs.days.days_of.Goals as goal

pub returns : goal.returns
unfolding day_passes
returns c = λ i lt.
    let listed = c.requires.listed i lt in
    let a = c.month_days.ensures i lt in
    let b = c.by_days.ensures i lt in
    let d = c.year_days.ensures i lt in
    let e = c.week_days.ensures i lt in
    let f = c.default_days.ensures i lt in
    rw listed (c.in_all.ensures i ∙ rw (a, b, d, e, f) refl)
