use Rattle.std.proofs.Common.{◌≡◌, ◌∙◌, sym, subst, rules, List, length, FitsSigned, w32, to_z-of_z}
use Rattle.std.specs.Prelude.{All, IfOk}
use Rattle.cal_model.specs.declared.row.Row.{Row}
use Rattle.cal_model.specs.Ranges.Cost.{last_day}
use Rattle.cal_model.specs.Ranges.Nearness.{HasShortOffsets}
use Rattle.cal_model.specs.Recurrence.RecurrenceSet.{every_moment}
use Rattle.override_merge.specs.Conversions.{HasRowTimes}
use Rattle.override_merge.proofs.MergeLemmas.{zones_count}
use Rattle.override_merge.proofs.StampLemmas.{ids_convertible}
use Rattle.rrule_sets.specs.declared.windows.Needed.{Needed}
use Rattle.rrule_sets.specs.MovedStarts.{offset_bound}
use Rattle.rrule_sets.proofs.CostLemmas.{window_counted}
use Rattle.rrule_sets.proofs.DateStarts.{short_tables}
use Rattle.rrule_sets.proofs.MovedLemmas.{needed-for, offsets-below, some_offset}
use Rattle.rrule_sets.proofs.WindowLemmas.{ends_by_last, governed_near, window_found}
use Rattle.rrule_sets.proofs.window.rows_with_overrides.Goals as goal

pub needed-range-requires-clause-ids : goal.needed-range-requires-clause-ids
needed-range-requires-clause-ids g c =
    let object = c.args.object.now in
    let count = zones_count c.args.zones.now object.zones c.requires.zones in
    rw count (ids_convertible (length object.zones) object c.args.ids c.requires.object.rows.components c.requires.ids).zone

pub needed-range-requires-clause-components : goal.needed-range-requires-clause-components
needed-range-requires-clause-components g c =
    let count = zones_count c.args.zones.now c.args.object.now.zones c.requires.zones in
    rw (c.as_slice-components.ensures, count) c.requires.object.rows.components

pub merged_rows-requires-clause-ids : goal.merged_rows-requires-clause-ids
merged_rows-requires-clause-ids g c =
    let object = c.args.object.now in
    let count = zones_count c.args.zones.now object.zones c.requires.zones in
    rw count (ids_convertible (length object.zones) object c.args.ids c.requires.object.rows.components c.requires.ids).zone

pub merged_rows-requires-clause-near : goal.merged_rows-requires-clause-near
merged_rows-requires-clause-near g c =
    let short = subst (All HasShortOffsets) c.requires.zones (short_tables c.args.zones.now) in
    subst (All HasRowTimes) (sym (c.as_slice.ensures ∙ c.in_ok-rows.ensures.rows)) (governed_near c.args.object.now c.args.ids c.needed-range.result c.requires.object.read short)

pub returns-in_err-rows-clause-steps : goal.returns-in_err-rows-clause-steps
returns-in_err-rows-clause-steps g c =
    let object = c.args.object.now in
    let fits : FitsSigned w32 c.args.window = search rules in
    let short = subst (All HasShortOffsets) c.requires.zones (short_tables c.args.zones.now) in
    let its : Needed = record { window = c.args.window; range = c.needed-range.result } in
    let needed = needed-for object c.args.ids its c.requires.ids short (simp to_z-of_z at (rw (c.requires.zones, c.as_slice-components.ensures) at c.needed-range.ensures.needed)) in
    let ends = ends_by_last object c.args.ids c.args.window c.needed-range.result c.requires.ids needed.least in
    let looked = rw c.as_slice-components.ensures at c.needed-range.ensures.steps in
    window_counted object c.args.window c.args.steps.now c.needed-range.new.steps c.governed_rows.new.steps looked (c.governed_rows.ensures.steps (last_day every_moment object c.args.window) ends)

pub returns-clause-steps : goal.returns-clause-steps
returns-clause-steps g c =
    let object = c.args.object.now in
    let fits : FitsSigned w32 c.args.window = search rules in
    let short = subst (All HasShortOffsets) c.requires.zones (short_tables c.args.zones.now) in
    let its : Needed = record { window = c.args.window; range = c.needed-range.result } in
    let needed = needed-for object c.args.ids its c.requires.ids short (simp to_z-of_z at (rw (c.requires.zones, c.as_slice-components.ensures) at c.needed-range.ensures.needed)) in
    let ends = ends_by_last object c.args.ids c.args.window c.needed-range.result c.requires.ids needed.least in
    let looked = rw c.as_slice-components.ensures at c.needed-range.ensures.steps in
    window_counted object c.args.window c.args.steps.now c.needed-range.new.steps c.governed_rows.new.steps looked (c.governed_rows.ensures.steps (last_day every_moment object c.args.window) ends)

pub returns-clause-rows : goal.returns-clause-rows
returns-clause-rows g c =
    let object = c.args.object.now in
    let fits : FitsSigned w32 c.args.window = search rules in
    let short = subst (All HasShortOffsets) c.requires.zones (short_tables c.args.zones.now) in
    let its : Needed = record { window = c.args.window; range = c.needed-range.result } in
    let needed = needed-for object c.args.ids its c.requires.ids short (simp to_z-of_z at (rw (c.requires.zones, c.as_slice-components.ensures) at c.needed-range.ensures.needed)) in
    let made = c.as_slice.ensures ∙ c.in_ok-rows.ensures.rows in
    let merged = simp to_z-of_z at c.merged_rows.ensures in
    let found = window_found (offset_bound object.zones) (some_offset object.zones) object c.args.ids c.args.window c.needed-range.result c.as_slice.result.now (offsets-below object.zones short) short c.requires.ids needed.moved needed.their_days c.requires.object.read.one_master needed.window needed.days made in
    subst (λ (xs : List Row). IfOk c.merged_rows.result (λ all. all ≡ xs)) found merged
