use Rattle.std.proofs.Common.{arith, ◌≡◌, FitsSigned, w32, to_z-of_z, pos, neg_ℤ, ◌≤ℤ◌, sym}
use Rattle.jiff_core.proofs.SignedLemmas.{signed_arith, signed_casts}
use Rattle.cal_moment.proofs.JiffCalendar.{IsDayOf, day_of_jiff, day_is_late}
use Rattle.cal_moment.proofs.calendar.day_of.Goals as goal

-- what the calendar says of the day that is returned
day_is : (c : goal.After-to_unix_epoch_day) → (neg_ℤ (pos 719_162) ≤ℤ c.to_unix_epoch_day.result) × IsDayOf c.to_unix_epoch_day.result c.args.year c.args.month c.args.day
day_is c =
    let date = c.in-Ok.date in
    let y : date.year ≡ c.args.year = omega (arith, signed_casts, c.in-Ok.ensures.value) in
    let m : date.month ≡ c.args.month = omega (arith, signed_casts, c.in-Ok.ensures.value) in
    let d : date.day ≡ c.args.day = omega (arith, signed_casts, c.in-Ok.ensures.value) in
    let late : neg_ℤ (pos 719_162) ≤ℤ c.to_unix_epoch_day.result =
    rw c.to_unix_epoch_day.ensures.value (day_is_late date (omega (arith, signed_arith))) in
    (late, rw (y, m, d) at (day_of_jiff date c.to_unix_epoch_day.result late (sym c.to_unix_epoch_day.ensures.value)))

pub returns-in-Ok-clause-value : goal.returns-in-Ok-clause-value
returns-in-Ok-clause-value c =
    let is = day_is c in
    let fits : FitsSigned w32 c.to_unix_epoch_day.result = omega (arith, signed_arith) in
    simp to_z-of_z ((is.0, omega (arith, signed_arith, c.to_unix_epoch_day.ensures.bound)), is.1.number)

pub returns-in-Ok-clause-fields : goal.returns-in-Ok-clause-fields
returns-in-Ok-clause-fields c =
    let fits : FitsSigned w32 c.to_unix_epoch_day.result = omega (arith, signed_arith) in
    simp to_z-of_z (day_is c).1.fields
