use Rattle.std.proofs.Common.{rules, arith, FitsSigned, w32, w64, to_z-of_z, ◌+ℤ◌}
use Rattle.std.proofs.lemmas.Int.{ints}
use Rattle.rrule_sets.proofs.TableLemmas.{shown_near}
use Rattle.rrule_sets.proofs.tables.shown.Goals as goal

pub returns-clause-near : goal.returns-clause-near
returns-clause-near c =
    let instant_fits : FitsSigned w64 c.args.instant = search rules in
    let offset_fits : FitsSigned w32 c.offset_at.result = search (rules, c.offset_at.type_inv) in
    let value = simp to_z-of_z at c.offset_at.ensures.value in
    let near = rw (← value) at (shown_near c.args.table.now c.args.instant c.requires.table) in
    let offset_wide : FitsSigned w64 c.offset_at.result = omega (arith, ints, near) in
    let sum_fits : FitsSigned w64 (c.args.instant +ℤ c.offset_at.result) = omega (arith, ints, near) in
    simp to_z-of_z near
