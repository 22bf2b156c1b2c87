use Rattle.std.proofs.Common.{◌≡◌, ◌∙◌, ap, pos, ◌+ℤ◌, ◌-ℤ◌, rules, arith, FitsSigned, w64, to_z-of_z}
use Rattle.std.specs.Int.{w128}
use Rattle.std.proofs.lemmas.Int.{ints}
use Rattle.std.specs.Prelude.{filter, int_le, int_lt}
use Rattle.std.proofs.lemmas.List.Kept.{AllPairs-filter}
use Rattle.cal_model.specs.declared.row.Row.{Row}
use Rattle.rrule_sets.specs.NearRows.{HasLesserId}
use Rattle.rrule_sets.proofs.NearRowLemmas.{filter_both}
use Rattle.rrule_sets.proofs.near.near_rows.Goals as goal

pub rows_before-requires : goal.rows_before-requires
rows_before-requires c = rw c.rows_from.ensures (AllPairs-filter HasLesserId _ c.args.rows.now c.requires)

pub returns : goal.returns
returns c =
    let low_fits : FitsSigned w64 c.args.range.low = search rules in
    let high_fits : FitsSigned w64 c.args.range.high = search rules in
    let before_fits : FitsSigned w128 (c.args.range.low -ℤ pos 86400) = omega (arith, ints, low_fits) in
    let after_fits : FitsSigned w128 (c.args.range.high +ℤ pos 86400) = omega (arith, ints, high_fits) in
    let from : c.rows_from.result.now ≡ filter (λ (row : Row). int_le (c.args.range.low -ℤ pos 86400) row.id) c.args.rows.now = simp to_z-of_z at (rw c.day_before.ensures at c.rows_from.ensures) in
    let before : c.rows_before.result.now ≡ filter (λ (row : Row). int_lt row.id (c.args.range.high +ℤ pos 86400)) c.rows_from.result.now = simp to_z-of_z at (rw c.day_after.ensures at c.rows_before.ensures) in
    before ∙ (ap (filter (λ (row : Row). int_lt row.id (c.args.range.high +ℤ pos 86400))) from ∙ filter_both (λ (row : Row). int_lt row.id (c.args.range.high +ℤ pos 86400)) (λ (row : Row). int_le (c.args.range.low -ℤ pos 86400) row.id) c.args.rows.now)
