use Rattle.std.proofs.Common.{◌∙◌, length, sym, subst, rules, FitsSigned, w32, to_z-of_z}
use Rattle.std.specs.Prelude.{All}
use Rattle.std.proofs.lemmas.List.Elements.{All-filter}
use Rattle.cal_model.specs.Ranges.Nearness.{HasShortOffsets}
use Rattle.override_merge.specs.Conversions.{HasRowTimes}
use Rattle.override_merge.proofs.MergeLemmas.{zones_count}
use Rattle.override_merge.proofs.StampLemmas.{ids_convertible}
use Rattle.rrule_sets.specs.MovedStarts.{offset_bound}
use Rattle.rrule_sets.specs.NearRows.{is_near}
use Rattle.rrule_sets.proofs.DateStarts.{short_tables}
use Rattle.rrule_sets.proofs.MovedLemmas.{needed-for, offsets-below, some_offset}
use Rattle.rrule_sets.proofs.SeveralLemmas.{rows_by_id, window_found_near}
use Rattle.rrule_sets.proofs.WindowLemmas.{governed_near}
use Rattle.rrule_sets.proofs.windows.put_with_overrides.Goals as goal

pub near_rows-near-requires : goal.near_rows-near-requires
near_rows-near-requires c = rows_by_id c.args.object.now c.args.ids c.args.range c.args.rows.now c.requires.ids c.requires.object.read.one_master c.requires.rows

pub merged_rows-requires-clause-ids : goal.merged_rows-requires-clause-ids
merged_rows-requires-clause-ids c =
    let object = c.args.object.now in
    let count = zones_count c.args.zones.now object.zones c.requires.zones in
    rw count (ids_convertible (length object.zones) object c.args.ids c.requires.object.rows.components c.requires.ids).zone

pub merged_rows-requires-clause-near : goal.merged_rows-requires-clause-near
merged_rows-requires-clause-near c =
    let short = subst (All HasShortOffsets) c.requires.zones (short_tables c.args.zones.now) in
    subst (All HasRowTimes) (sym c.near_rows-near.ensures)
    (All-filter (is_near c.args.needed.now.range) HasRowTimes c.args.rows.now (subst (All HasRowTimes) (sym c.requires.rows) (governed_near c.args.object.now c.args.ids c.args.range c.requires.object.read short)))

pub returns : goal.returns
returns c =
    let object = c.args.object.now in
    let its = c.args.needed.now in
    let short = subst (All HasShortOffsets) c.requires.zones (short_tables c.args.zones.now) in
    let fits : FitsSigned w32 its.window = search rules in
    let merged = simp to_z-of_z at c.in_ok-found.ensures in
    let needed = needed-for object c.args.ids its c.requires.ids short c.requires.needed in
    let found = window_found_near (offset_bound object.zones) (some_offset object.zones) object c.args.ids its.window c.args.range its.range c.args.rows.now c.near_rows-near.result.now (offsets-below object.zones short) c.requires.ids needed.moved needed.their_days c.requires.object.read.one_master short needed.window needed.days c.requires.range c.requires.rows c.near_rows-near.ensures in
    let rows = c.as_slice.ensures ∙ (merged ∙ found) in
    rw rows at c.extend_from_slice.ensures.ok
