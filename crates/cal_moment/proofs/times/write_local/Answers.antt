use Rattle.std.proofs.Common.{◌≡◌, arith, refl, FitsSigned, w32, to_z-of_z}
use Rattle.jiff_core.proofs.SignedLemmas.{signed_arith}
use Rattle.cal_moment.specs.Calendar.{day_number, day_of_moment, second_of_day, moment_number}
use Rattle.cal_moment.proofs.times.write_local.Goals as goal

pub returns-clause-text : goal.returns-clause-text
returns-clause-text c =
    let fits : FitsSigned w32 c.args.local.day = omega (arith, signed_arith) in
    let date = simp to_z-of_z at c.write_date.ensures.text in
    let day : day_of_moment (moment_number c.args.local.day c.args.local.second) ≡ day_number c.args.local.day = omega arith in
    let second : second_of_day (moment_number c.args.local.day c.args.local.second) ≡ c.args.local.second = omega arith in
    rw (c.copy_from_slice.ensures.after, date, c.copy_from_slice-2.ensures.after, c.time_octets.ensures, day, second) refl
