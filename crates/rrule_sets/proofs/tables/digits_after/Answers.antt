use Rattle.std.proofs.Common.{rules, refl, arith, FitsSigned, w64, to_z-of_z, pos, ◌+ℤ◌, ◌*ℤ◌}
use Rattle.std.proofs.lemmas.Int.{ints}
use Rattle.rrule_sets.proofs.tables.digits_after.Goals as goal

pub returns-clause-value : goal.returns-clause-value
returns-clause-value c =
    let start_fits : FitsSigned w64 c.args.start = search rules in
    let days_fit : FitsSigned w64 c.args.days = search rules in
    let local_fits : FitsSigned w64 c.local_beside.result = search (rules, c.local_beside.type_inv) in
    let near = simp to_z-of_z at c.local_beside.ensures.near in
    let value = simp to_z-of_z at c.local_beside.ensures.value in
    let product_fits : FitsSigned w64 (c.args.days *ℤ pos 86400) = omega (arith, ints) in
    let sum_fits : FitsSigned w64 (c.local_beside.result +ℤ c.args.days *ℤ pos 86400) = omega (arith, ints) in
    simp to_z-of_z (rw value refl)
