use Rattle.std.proofs.Common.{◌≡◌, rules, arith, pos, ◌+ℤ◌, ◌-ℤ◌, ◌*ℤ◌, FitsSigned, w32, to_z-of_z}
use Rattle.std.specs.Int.{w128}
use Rattle.std.specs.Prelude.{filter, int_le, int_lt}
use Rattle.std.proofs.lemmas.Int.{ints}
use Rattle.std.proofs.lemmas.List.Elements.{All-filter}
use Rattle.std.proofs.lemmas.List.Kept.{AllPairs-filter}
use Rattle.cal_model.specs.declared.row.Row.{Row}
use Rattle.cal_model.specs.Instances.Rows.{window_seconds}
use Rattle.override_merge.specs.Conversions.{HasRowTimes}
use Rattle.rrule_sets.specs.NearRows.{HasLesserId}
use Rattle.rrule_sets.proofs.AloneLemmas.{near_parts}
use Rattle.rrule_sets.proofs.windows.put_near.Goals as goal

pub rows_before-inner-requires : goal.rows_before-inner-requires
rows_before-inner-requires c = rw c.rows_from-rest.ensures (AllPairs-filter HasLesserId _ c.args.rows.now c.requires.rising)

pub rows_from-last-requires : goal.rows_from-last-requires
rows_from-last-requires c = rw c.rows_from-rest.ensures (AllPairs-filter HasLesserId _ c.args.rows.now c.requires.rising)

pub put_asked_rows-requires-clause-near : goal.put_asked_rows-requires-clause-near
put_asked_rows-requires-clause-near c = rw c.rows_before-first.ensures (All-filter _ HasRowTimes c.args.rows.now c.requires.times)

pub put_asked_rows-requires-2-clause-near : goal.put_asked_rows-requires-2-clause-near
put_asked_rows-requires-2-clause-near c = rw (c.rows_from-last.ensures, c.rows_from-rest.ensures) (All-filter _ HasRowTimes _ (All-filter _ HasRowTimes c.args.rows.now c.requires.times))

pub returns : goal.returns
returns c =
    let window = c.args.window in
    let fits : FitsSigned w32 window = search rules in
    let from_fits : FitsSigned w128 ((window *ℤ window_seconds) +ℤ pos 86400) = omega (arith, ints, fits) in
    let to_fits : FitsSigned w128 (((window +ℤ pos 1) *ℤ window_seconds) -ℤ pos 86400) = omega (arith, ints, fits) in
    let from = simp to_z-of_z at c.inner_start-from.ensures in
    let to = simp to_z-of_z at c.inner_end-to.ensures in
    let first : c.rows_before-first.result.now ≡ filter (λ (row : Row). int_lt row.id ((window *ℤ window_seconds) +ℤ pos 86400)) c.args.rows.now = simp to_z-of_z at (rw from at c.rows_before-first.ensures) in
    let rest : c.rows_from-rest.result.now ≡ filter (λ (row : Row). int_le ((window *ℤ window_seconds) +ℤ pos 86400) row.id) c.args.rows.now = simp to_z-of_z at (rw from at c.rows_from-rest.ensures) in
    let inner : c.rows_before-inner.result.now ≡ filter (λ (row : Row). int_lt row.id (((window +ℤ pos 1) *ℤ window_seconds) -ℤ pos 86400)) c.rows_from-rest.result.now = simp to_z-of_z at (rw to at c.rows_before-inner.ensures) in
    let last : c.rows_from-last.result.now ≡ filter (λ (row : Row). int_le (((window +ℤ pos 1) *ℤ window_seconds) -ℤ pos 86400) row.id) c.rows_from-rest.result.now = simp to_z-of_z at (rw to at c.rows_from-last.ensures) in
    let made = near_parts c.args.object.now window c.args.out.now c.args.rows.now c.rows_before-first.result.now c.rows_from-rest.result.now c.rows_before-inner.result.now c.rows_from-last.result.now c.requires.rising c.requires.inner first rest inner last in
    let put = simp to_z-of_z at c.in_ok-put_asked_rows.ensures in
    let more = simp to_z-of_z at c.put_asked_rows-2.ensures in
    rw made at (rw (c.in_ok-extend_from_slice.ensures.ok, put) at more)
