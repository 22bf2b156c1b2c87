use Rattle.std.proofs.Common.{rules, refl, arith, FitsSigned, w64, to_z-of_z, ◌+ℤ◌}
use Rattle.std.proofs.lemmas.Int.{ints}
use Rattle.rrule_sets.proofs.tables.plus_length.Goals as goal

pub returns : goal.returns
returns c =
    let start_fits : FitsSigned w64 c.args.start = search rules in
    let digits_fit : FitsSigned w64 c.digits_after-digits.result = search (rules, c.digits_after-digits.type_inv) in
    let instant_fits : FitsSigned w64 c.instant_beside.result = search (rules, c.instant_beside.type_inv) in
    let seconds_fit : FitsSigned w64 c.args.lasting.seconds = omega (arith, ints) in
    let days_fit : FitsSigned w64 c.args.lasting.days = omega (arith, ints) in
    let near = simp to_z-of_z at c.instant_beside.ensures.near in
    let value = simp to_z-of_z at c.instant_beside.ensures.value in
    let digits = simp to_z-of_z at c.digits_after-digits.ensures.value in
    let sum_fits : FitsSigned w64 (c.instant_beside.result +ℤ c.args.lasting.seconds) = omega (arith, ints) in
    simp to_z-of_z (rw (value, digits) refl)
