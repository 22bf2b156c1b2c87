use Rattle.std.proofs.Common.{◌≡◌, arith, rules, to_z, of_z, w32}
use Rattle.cal_moment.specs.Calendar.{day_number}
use Rattle.cal_model.proofs.Recurrence.DateFields.{day_of_date-fields}
use Rattle.cal_model.proofs.walk.period.month_end.Goals as goal

pub returns : goal.returns
returns c =
    let day : to_z w32 (of_z w32 c.args.day) ≡ c.args.day = search rules in
    let year = rw day at c.month_of-year.ensures.year in
    let month = rw day at c.month_of-year.ensures.month in
    let is = day_of_date-fields (day_number c.args.day) in
    let size = rw (year, month) at c.month_length-size.ensures.value in
    let some = c.day_of_month.ensures.bounds in
    let place = rw day at c.day_of_month.ensures.value in
    let number = rw day at c.day_number.ensures.value in
    omega (arith, is, size, some, place, number)
