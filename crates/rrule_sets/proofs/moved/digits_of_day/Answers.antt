use Rattle.std.proofs.Common.{◌-ℤ◌, rules, arith, FitsSigned, w32, w64, to_z-of_z}
use Rattle.std.proofs.lemmas.Int.{ints}
use Rattle.rrule_sets.proofs.moved.digits_of_day.Goals as goal

pub returns : goal.returns
returns c =
    let stamp = c.requires.stamp in
    let midnight = c.requires.midnight in
    let is = c.written_value.ensures in
    let window_fits : FitsSigned w32 c.args.window = search rules in
    let midnight_fits : FitsSigned w64 c.args.midnight = omega (arith, ints, midnight) in
    let written_fits : FitsSigned w64 c.written_value.result = rw is (omega (arith, ints, stamp)) in
    let moved_fits : FitsSigned w64 (c.written_value.result -ℤ c.args.midnight) = rw is (omega (arith, ints, stamp, midnight)) in
    (rw is at (simp to_z-of_z at c.moved_back.ensures.low), rw is at (simp to_z-of_z at c.moved_back.ensures.high))
