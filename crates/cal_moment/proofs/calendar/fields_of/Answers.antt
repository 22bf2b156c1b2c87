use Rattle.std.proofs.Common.{arith, FitsSigned, w32, to_z-of_z, sym}
use Rattle.std.specs.Int.{w16}
use Rattle.jiff_core.proofs.SignedLemmas.{signed_arith, signed_casts}
use Rattle.cal_moment.proofs.JiffCalendar.{day_of_jiff}
use Rattle.cal_moment.proofs.calendar.fields_of.Goals as goal

pub returns-clause-date : goal.returns-clause-date
returns-clause-date c =
    let d = c.from_days_since_min-date.result in
    let f16 : FitsSigned w16 d.year = omega (arith, signed_arith) in
    let f32 : FitsSigned w32 d.year = omega (arith, signed_arith) in
    simp to_z-of_z (day_of_jiff d c.args.day.0 c.requires.0 (omega (arith, signed_casts))).date

pub returns-clause-value : goal.returns-clause-value
returns-clause-value c =
    let d = c.from_days_since_min-date.result in
    let f16 : FitsSigned w16 d.year = omega (arith, signed_arith) in
    let f32 : FitsSigned w32 d.year = omega (arith, signed_arith) in
    simp to_z-of_z (sym (day_of_jiff d c.args.day.0 c.requires.0 (omega (arith, signed_casts))).number)

pub returns-clause-fields : goal.returns-clause-fields
returns-clause-fields c =
    let d = c.from_days_since_min-date.result in
    let f16 : FitsSigned w16 d.year = omega (arith, signed_arith) in
    let f32 : FitsSigned w32 d.year = omega (arith, signed_arith) in
    simp to_z-of_z (day_of_jiff d c.args.day.0 c.requires.0 (omega (arith, signed_casts))).fields
