use Rattle.std.proofs.Common.{arith, rules, pos, ◌+ℤ◌, FitsSigned, w64, to_z-of_z}
use Rattle.std.proofs.lemmas.Int.{ints}
use Rattle.rrule_sets.proofs.NeededLemmas.{max_least}
use Rattle.rrule_sets.proofs.needed.with_midnight.Goals as goal

pub returns-clause-least : goal.returns-clause-least
returns-clause-least c =
    let near = c.requires in
    let midnight_fits : FitsSigned w64 c.args.midnight = omega (arith, ints, near) in
    let high_fits : FitsSigned w64 c.args.range.high = search rules in
    let end_fits : FitsSigned w64 (c.args.midnight +ℤ pos 86400) = omega (arith, ints, near) in
    let result_fits : FitsSigned w64 c.max.result = search (rules, c.max.type_inv) in
    let value = simp to_z-of_z at c.max.ensures.value in
    λ z by day. simp to_z-of_z (rw value (max_least c.args.range.high (c.args.midnight +ℤ pos 86400) z by day))
