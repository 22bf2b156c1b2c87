use Rattle.std.proofs.Common.{pos, ◌-ℤ◌, rules, arith, FitsSigned, w32, w64, to_z-of_z}
use Rattle.std.proofs.lemmas.Int.{ints}
use Rattle.override_merge.specs.Conversions.{tables_of}
use Rattle.rrule_sets.proofs.MovedLemmas.{bound_at_most}
use Rattle.rrule_sets.proofs.moved.digits_of_moment.Goals as goal

pub returns : goal.returns
returns c =
    let written = c.requires.stamp.near in
    let moment = c.requires.moment in
    let most = bound_at_most (tables_of c.args.zones.now) in
    let window_fits : FitsSigned w32 c.args.window = search rules in
    let moment_fits : FitsSigned w64 c.args.moment = omega (arith, ints, moment) in
    let from_fits : FitsSigned w64 (c.args.moment -ℤ pos 86400) = omega (arith, ints, moment) in
    let by = c.seconds_apart-by.ensures in
    let by_fits : FitsSigned w64 c.seconds_apart-by.result = rw by (omega (arith, ints, most)) in
    let is = c.written_value.ensures in
    let written_fits : FitsSigned w64 c.written_value.result = rw is (omega (arith, ints, written)) in
    let near = simp to_z-of_z at c.local_beside.ensures.near in
    let local_fits : FitsSigned w64 c.local_beside.result = omega (arith, ints, near, moment) in
    let moved_fits : FitsSigned w64 (c.written_value.result -ℤ c.local_beside.result) = rw is (omega (arith, ints, near, moment, written)) in
    let value = simp to_z-of_z at c.local_beside.ensures.value in
    let low = rw (by, is, value) at (simp to_z-of_z at c.moved_back.ensures.low) in
    let high = rw (by, is, value) at (simp to_z-of_z at c.moved_back.ensures.high) in
    let left = simp to_z-of_z at c.from_digits.ensures in
    (c.moved_back.result, ((low, high), left))
