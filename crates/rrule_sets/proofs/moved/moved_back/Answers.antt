use Rattle.std.proofs.Common.{ap, ℤ, ◌+ℤ◌, ◌-ℤ◌, rules, arith, FitsSigned, w32, w64, to_z-of_z}
use Rattle.std.proofs.lemmas.Int.{ints}
use Rattle.rrule_sets.proofs.moved.moved_back.Goals as goal

pub returns-clause-low : goal.returns-clause-low
returns-clause-low c =
    let moved = c.requires.moved in
    let by = c.requires.before in
    let window_fits : FitsSigned w32 c.args.window = search rules in
    let low = simp to_z-of_z at c.window_digits-range.ensures.low in
    let moved_fits : FitsSigned w64 c.args.moved = omega (arith, ints, moved) in
    let by_fits : FitsSigned w64 c.args.before = omega (arith, ints, by) in
    let first_fits : FitsSigned w64 c.window_digits-range.result.low = rw low (omega (arith, ints, window_fits)) in
    let next_fits : FitsSigned w64 (c.window_digits-range.result.low -ℤ c.args.before) = rw low (omega (arith, ints, window_fits, by)) in
    let last_fits : FitsSigned w64 ((c.window_digits-range.result.low -ℤ c.args.before) -ℤ c.args.moved) = rw low (omega (arith, ints, window_fits, by, moved)) in
    simp to_z-of_z (ap (λ (z : ℤ). (z -ℤ c.args.before) -ℤ c.args.moved) low)

pub returns-clause-high : goal.returns-clause-high
returns-clause-high c =
    let moved = c.requires.moved in
    let by = c.requires.behind in
    let window_fits : FitsSigned w32 c.args.window = search rules in
    let high = simp to_z-of_z at c.window_digits-range.ensures.high in
    let moved_fits : FitsSigned w64 c.args.moved = omega (arith, ints, moved) in
    let by_fits : FitsSigned w64 c.args.behind = omega (arith, ints, by) in
    let first_fits : FitsSigned w64 c.window_digits-range.result.high = rw high (omega (arith, ints, window_fits)) in
    let next_fits : FitsSigned w64 (c.window_digits-range.result.high +ℤ c.args.behind) = rw high (omega (arith, ints, window_fits, by)) in
    let last_fits : FitsSigned w64 ((c.window_digits-range.result.high +ℤ c.args.behind) -ℤ c.args.moved) = rw high (omega (arith, ints, window_fits, by, moved)) in
    simp to_z-of_z (ap (λ (z : ℤ). (z +ℤ c.args.behind) -ℤ c.args.moved) high)
