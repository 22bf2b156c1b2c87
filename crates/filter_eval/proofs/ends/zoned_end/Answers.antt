use Rattle.std.proofs.Common.{arith, rules, FitsSigned, w64, to_z-of_z}
use Rattle.std.proofs.lemmas.Int.{ints}
use Rattle.std.proofs.Common.{◌*ℤ◌, pos}
use Rattle.filter_eval.proofs.ends.zoned_end.Goals as goal

pub returns : goal.returns
returns c =
    let fits : FitsSigned w64 c.args.digits = search rules in
    let days : FitsSigned w64 c.args.length.days = search rules in
    let all : FitsSigned w64 (c.args.length.days *ℤ pos 86400) = omega (arith, ints) in
    let value = simp to_z-of_z at c.zoned_later.ensures.value in
    omega (arith, ints, value)
