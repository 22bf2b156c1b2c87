use Rattle.std.proofs.Common.{◌∙◌, ap, rules, arith, FitsSigned, w64, to_z-of_z, pos, ◌+ℤ◌}
use Rattle.std.specs.Int.{w128}
use Rattle.std.proofs.lemmas.Int.{ints}
use Rattle.cal_model.specs.Instances.Alignment.{reading_of}
use Rattle.cal_model.specs.Instances.Rows.{window_at}
use Rattle.cal_model.specs.Words.Integers.{same_int}
use Rattle.override_merge.specs.Conversions.{tables_of}
use Rattle.needed_windows.specs.Stretches.{window_of_place}
use Rattle.needed_windows.proofs.StretchLemmas.{at_second}
use Rattle.needed_windows.proofs.windows.stretch_of_start.Goals as goal

pub returns-clause-window : goal.returns-clause-window
returns-clause-window c = λ place below.
    let zones = tables_of c.args.zones.now in
    let start = c.local_beside-start.result in
    let value_fits : FitsSigned w64 c.value_of.result = search (rules, c.value_of.type_inv) in
    let shown = simp to_z-of_z at c.local_beside-start.ensures.value in
    let fits : FitsSigned w64 start = search (rules, c.local_beside-start.type_inv) in
    let wide : FitsSigned w128 start = omega (arith, ints, fits) in
    let next : FitsSigned w128 (start +ℤ pos 1) = omega (arith, ints, fits) in
    let windows = simp to_z-of_z at (c.stretch_between.ensures.windows place below) in
    windows ∙ at_second start (window_of_place place)
    ∙ ap (λ l. same_int (window_of_place place) (window_at l)) (shown ∙ ap (reading_of zones c.args.stamp).local c.value_of.ensures.value)
