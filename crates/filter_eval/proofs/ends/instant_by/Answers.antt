use Rattle.std.proofs.Common.{arith}
use Rattle.std.proofs.Common.{rules, FitsSigned, w32, w64, to_z-of_z, ◌-ℤ◌}
use Rattle.std.proofs.lemmas.Int.{ints}
use Rattle.filter_eval.proofs.ends.instant_by.Goals as goal

pub returns : goal.returns
returns c =
    let fits : FitsSigned w64 c.args.digits = search rules in
    let short : FitsSigned w32 c.args.offset = search rules in
    let offset : FitsSigned w64 c.args.offset = omega (arith, ints) in
    let made : FitsSigned w64 (c.args.digits -ℤ c.args.offset) = omega (arith, ints) in
    simp to_z-of_z at c.if_shown.ensures
