use Rattle.std.proofs.Common.{◌≡◌, rules, arith, FitsSigned, w64, to_z, to_z-of_z, pos, ◌+ℤ◌, ◌-ℤ◌}
use Rattle.std.specs.Int.{w128}
use Rattle.std.proofs.lemmas.Int.{ints}
use Rattle.needed_windows.proofs.windows.widened.Goals as goal

pub returns-clause-windows : goal.returns-clause-windows
returns-clause-windows c = λ place below.
    let start : FitsSigned w64 c.args.range.start.0 = search rules in
    let end : FitsSigned w64 c.args.range.end.0 = search rules in
    let by = c.requires in
    let cast : to_z w128 c.args.by ≡ pos c.args.by = omega (arith, ints, by) in
    let wide_start : FitsSigned w128 c.args.range.start.0 = omega (arith, ints, start) in
    let wide_end : FitsSigned w128 c.args.range.end.0 = omega (arith, ints, end) in
    let low : FitsSigned w128 (c.args.range.start.0 -ℤ pos c.args.by) = omega (arith, ints, start, by) in
    let high : FitsSigned w128 (c.args.range.end.0 +ℤ pos c.args.by) = omega (arith, ints, end, by) in
    simp (cast, to_z-of_z) at (c.stretch_between.ensures.windows place below)
