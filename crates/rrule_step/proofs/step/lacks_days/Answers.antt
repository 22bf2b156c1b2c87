use Rattle.std.proofs.Common.{◌≡◌, ◌+◌, ◌-◌, ◌*◌, Bool, true, false, refl, arith}
use Rattle.std.specs.Prelude.{not}
use Rattle.cal_moment.specs.Calendar.{month_of, year_of}
use Rattle.cal_model.specs.Recurrence.Passing.{day_passes}
use Rattle.cal_model.proofs.Recurrence.Rising.{month_of-first}
use Rattle.rrule_step.specs.Periods.{month_begin}
use Rattle.rrule_step.proofs.CountLemmas.{month_within, none_of_stretch, some_year}
use Rattle.rrule_step.proofs.step.lacks_days.Goals as goal

none_of : (b : Bool) → not b ≡ true → b ≡ false
none_of false h = refl
none_of true h = absurd cc

pub returns : goal.returns
returns c = λ none day from.
    let year = some_year day from in
    let month = month_of-first day in
    let here : 12 * year_of day + month_of day ≡ 12 * year_of day + month_of day - 1 + 1 = omega (arith, month) in
    let within = month_within (12 * year_of day + month_of day - 1) day here in
    let few = c.some_month_has.ensures (none_of c.some_month_has.result none) (12 * year_of day + month_of day - 1) (omega (arith, year, month)) in
    none_of_stretch (day_passes c.args.rule.now c.args.plan.now.start.day) (month_begin (12 * year_of day + month_of day - 1)) (month_begin (12 * year_of day + month_of day - 1 + 1)) day (omega (arith, few)) within.0 within.1
