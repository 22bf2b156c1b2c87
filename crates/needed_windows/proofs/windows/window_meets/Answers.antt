use Rattle.std.proofs.Common.{◌≡◌, true, false, refl, rules, arith, FitsSigned, w32, w64, to_z, to_z-of_z, pos, ◌+ℤ◌, ◌-ℤ◌, ◌*ℤ◌}
use Rattle.std.specs.Prelude.{int_lt}
use Rattle.std.specs.Int.{w128}
use Rattle.std.proofs.lemmas.Int.{ints}
use Rattle.cal_model.specs.Instances.Rows.{window_seconds}
use Rattle.needed_windows.proofs.StretchLemmas.{window_next}
use Rattle.needed_windows.proofs.windows.window_meets.Goals as goal

pub returns-then-range-by : goal.returns-then-range-by
returns-then-range-by c =
    let start : FitsSigned w64 c.args.range.start.0 = search rules in
    let end : FitsSigned w64 c.args.range.end.0 = search rules in
    let window : FitsSigned w32 c.args.window = search rules in
    let by = c.requires in
    let cast : to_z w128 c.args.by ≡ pos c.args.by = omega (arith, ints, by) in
    let wide_start : FitsSigned w128 c.args.range.start.0 = omega (arith, ints, start) in
    let wide_end : FitsSigned w128 c.args.range.end.0 = omega (arith, ints, end) in
    let wide_window : FitsSigned w128 c.args.window = omega (arith, ints, window) in
    let low : FitsSigned w128 (c.args.range.start.0 -ℤ pos c.args.by) = omega (arith, ints, start, by) in
    let high : FitsSigned w128 (c.args.range.end.0 +ℤ pos c.args.by) = omega (arith, ints, end, by) in
    let begin : FitsSigned w128 (c.args.window *ℤ pos 5_529_600) = omega (arith, ints, window) in
    let behind : FitsSigned w128 ((c.args.window *ℤ pos 5_529_600) +ℤ pos 5_529_600) = omega (arith, ints, window) in
    let first : int_lt (c.args.range.start.0 -ℤ pos c.args.by) ((c.args.window +ℤ pos 1) *ℤ window_seconds) ≡ true = simp window_next at (simp (cast, to_z-of_z) at c.if-range-by.true) in
    simp (cast, to_z-of_z) (rw first refl)

pub returns-else-range-by : goal.returns-else-range-by
returns-else-range-by c =
    let start : FitsSigned w64 c.args.range.start.0 = search rules in
    let window : FitsSigned w32 c.args.window = search rules in
    let by = c.requires in
    let cast : to_z w128 c.args.by ≡ pos c.args.by = omega (arith, ints, by) in
    let wide_start : FitsSigned w128 c.args.range.start.0 = omega (arith, ints, start) in
    let wide_window : FitsSigned w128 c.args.window = omega (arith, ints, window) in
    let low : FitsSigned w128 (c.args.range.start.0 -ℤ pos c.args.by) = omega (arith, ints, start, by) in
    let begin : FitsSigned w128 (c.args.window *ℤ pos 5_529_600) = omega (arith, ints, window) in
    let behind : FitsSigned w128 ((c.args.window *ℤ pos 5_529_600) +ℤ pos 5_529_600) = omega (arith, ints, window) in
    let first : int_lt (c.args.range.start.0 -ℤ pos c.args.by) ((c.args.window +ℤ pos 1) *ℤ window_seconds) ≡ false = simp window_next at (simp (cast, to_z-of_z) at c.if-range-by.false) in
    simp (cast, to_z-of_z) (simp window_next (rw first refl))
