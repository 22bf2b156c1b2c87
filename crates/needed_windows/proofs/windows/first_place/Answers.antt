use Rattle.std.proofs.Common.{◌≡◌, ◌∙◌, ap, rules, arith, FitsSigned, to_z-of_z}
use Rattle.std.specs.Prelude.{int_le}
use Rattle.std.specs.Int.{int_div_euclid, w128}
use Rattle.std.proofs.lemmas.Int.{ints}
use Rattle.cal_model.specs.Instances.Rows.{window_seconds}
use Rattle.cal_model.proofs.Ranges.NearRanges.{window-holds}
use Rattle.needed_windows.specs.Stretches.{window_of_place}
use Rattle.needed_windows.proofs.StretchLemmas.{from_window}
use Rattle.needed_windows.proofs.windows.first_place.Goals as goal

pub place_near-requires : goal.place_near-requires
place_near-requires c =
    let near = c.requires in
    let fits : FitsSigned w128 c.args.moment = omega (arith, ints, near) in
    let value : c.div_euclid.result ≡ int_div_euclid c.args.moment window_seconds = simp to_z-of_z at c.div_euclid.ensures in
    let lies = window-holds c.args.moment in
    (omega (arith, ints, value, lies, near), omega (arith, ints, value, lies, near))

pub returns-clause-from : goal.returns-clause-from
returns-clause-from c = λ place below.
    let near = c.requires in
    let fits : FitsSigned w128 c.args.moment = omega (arith, ints, near) in
    let value : c.div_euclid.result ≡ int_div_euclid c.args.moment window_seconds = simp to_z-of_z at c.div_euclid.ensures in
    let fits_window : FitsSigned w128 c.div_euclid.result = search (rules, c.div_euclid.type_inv) in
    let from = simp to_z-of_z at (c.place_near.ensures.from place below) in
    from ∙ ap (λ q. int_le q (window_of_place place)) value ∙ from_window c.args.moment (window_of_place place)
