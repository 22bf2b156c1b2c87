use Rattle.std.proofs.Common.{ap, arith, ℤ, ◌+ℤ◌, FitsSigned, w64, to_z-of_z}
use Rattle.std.proofs.lemmas.Int.{ints}
use Rattle.rrule_sets.proofs.governors.moved_digits.Goals as goal

pub returns : goal.returns
returns c =
    let start = c.requires.start in
    let moved = c.requires.governor.moved in
    let start_fits : FitsSigned w64 c.args.start = omega (arith, ints, start) in
    let near = simp to_z-of_z at c.local_beside.ensures.near in
    let local_fits : FitsSigned w64 c.local_beside.result = omega (arith, ints, near, start) in
    let moved_fits : FitsSigned w64 c.args.governor.moved = omega (arith, ints, moved) in
    let sum_fits : FitsSigned w64 (c.local_beside.result +ℤ c.args.governor.moved) = omega (arith, ints, near, start, moved) in
    let value = simp to_z-of_z at c.local_beside.ensures.value in
    simp to_z-of_z (ap (λ (l : ℤ). l +ℤ c.args.governor.moved) value)
