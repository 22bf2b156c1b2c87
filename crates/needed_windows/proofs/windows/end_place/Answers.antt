use Rattle.std.proofs.Common.{◌≡◌, ◌∙◌, ap, arith, FitsSigned, to_z-of_z, pos, ◌+ℤ◌, ◌-ℤ◌}
use Rattle.std.specs.Prelude.{int_lt}
use Rattle.std.specs.Int.{int_div_euclid, w128}
use Rattle.std.proofs.lemmas.Int.{ints}
use Rattle.cal_model.specs.Instances.Rows.{window_seconds}
use Rattle.cal_model.proofs.Ranges.NearRanges.{window-holds}
use Rattle.needed_windows.specs.Stretches.{window_of_place}
use Rattle.needed_windows.proofs.StretchLemmas.{before_window}
use Rattle.needed_windows.proofs.windows.end_place.Goals as goal

pub place_near-requires : goal.place_near-requires
place_near-requires c =
    let near = c.requires in
    let moment : FitsSigned w128 c.args.moment = omega (arith, ints, near) in
    let fits : FitsSigned w128 (c.args.moment -ℤ pos 1) = omega (arith, ints, near) in
    let value : c.div_euclid.result ≡ int_div_euclid (c.args.moment -ℤ pos 1) window_seconds = simp to_z-of_z at c.div_euclid.ensures in
    let lies = window-holds (c.args.moment -ℤ pos 1) in
    (omega (arith, ints, value, lies, near), omega (arith, ints, value, lies, near))

pub returns-clause-before : goal.returns-clause-before
returns-clause-before c = λ place below.
    let near = c.requires in
    let moment : FitsSigned w128 c.args.moment = omega (arith, ints, near) in
    let fits : FitsSigned w128 (c.args.moment -ℤ pos 1) = omega (arith, ints, near) in
    let value : c.div_euclid.result ≡ int_div_euclid (c.args.moment -ℤ pos 1) window_seconds = simp to_z-of_z at c.div_euclid.ensures in
    let lies = window-holds (c.args.moment -ℤ pos 1) in
    let fits_window : FitsSigned w128 c.div_euclid.result = omega (arith, ints, value, lies, near) in
    let fits_next : FitsSigned w128 (c.div_euclid.result +ℤ pos 1) = omega (arith, ints, value, lies, near) in
    let before = simp to_z-of_z at (c.place_near.ensures.before place below) in
    before ∙ ap (λ q. int_lt (window_of_place place) (q +ℤ pos 1)) value ∙ before_window c.args.moment (window_of_place place)
