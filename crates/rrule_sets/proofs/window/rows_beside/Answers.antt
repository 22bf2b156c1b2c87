use Rattle.std.proofs.Common.{◌≡◌, ◌∙◌, refl, sym, subst, rules, List, FitsSigned, w32, to_z-of_z}
use Rattle.std.specs.Prelude.{All, IfOk, flat_map}
use Rattle.cal_model.specs.declared.row.Row.{Row}
use Rattle.cal_model.specs.Instances.Rows.{masters}
use Rattle.cal_model.specs.Ranges.Cost.{last_day}
use Rattle.cal_model.specs.Ranges.Nearness.{HasShortOffsets}
use Rattle.cal_model.specs.Recurrence.RecurrenceSet.{every_moment}
use Rattle.override_merge.proofs.MergeLemmas.{zones_count}
use Rattle.rrule_sets.specs.MasterRows.{rows_of_master}
use Rattle.rrule_sets.proofs.AloneLemmas.{alone_counted, alone_ends, alone_found}
use Rattle.rrule_sets.proofs.DateStarts.{short_tables}
use Rattle.rrule_sets.proofs.window.rows_beside.Goals as goal

pub master_rows-requires-clause-components : goal.master_rows-requires-clause-components
master_rows-requires-clause-components g c =
    let count = zones_count c.args.zones.now c.args.object.now.zones c.requires.zones in
    rw (c.as_slice-components.ensures, count) c.requires.object.components

pub master_rows-requires-clause-few : goal.master_rows-requires-clause-few
master_rows-requires-clause-few g c = rw c.as_slice-components.ensures c.requires.object.rows.numbers

pub master_rows-requires-clause-one : goal.master_rows-requires-clause-one
master_rows-requires-clause-one g c = rw c.as_slice-components.ensures c.requires.object.read.one_master

pub returns-else-has_overrides-clause-steps : goal.returns-else-has_overrides-clause-steps
returns-else-has_overrides-clause-steps g c =
    let object = c.args.object.now in
    let fits : FitsSigned w32 c.args.window = search rules in
    let low = simp to_z-of_z at c.window_digits-range.ensures.low in
    let high = simp to_z-of_z at c.window_digits-range.ensures.high in
    let alone = rw c.as_slice-components.ensures at (sym c.has_overrides.ensures ∙ c.if-has_overrides.false) in
    let ends = alone_ends object c.args.ids c.args.window c.window_digits-range.result c.requires.ids low high in
    let spent = rw c.as_slice-components.ensures at (c.master_rows.ensures.steps (last_day every_moment object c.args.window) ends) in
    alone_counted object c.args.window c.args.steps.now c.master_rows.new.steps alone spent

pub returns-else-has_overrides-clause-rows : goal.returns-else-has_overrides-clause-rows
returns-else-has_overrides-clause-rows g c =
    let object = c.args.object.now in
    let range = c.window_digits-range.result in
    let fits : FitsSigned w32 c.args.window = search rules in
    let low = simp to_z-of_z at c.window_digits-range.ensures.low in
    let high = simp to_z-of_z at c.window_digits-range.ensures.high in
    let alone = rw c.as_slice-components.ensures at (sym c.has_overrides.ensures ∙ c.if-has_overrides.false) in
    let made = rw (c.requires.zones, c.as_slice-components.ensures) at c.master_rows.ensures.rows in
    let short = subst (All HasShortOffsets) c.requires.zones (short_tables c.args.zones.now) in
    let found = alone_found object c.args.ids c.args.window range c.requires.ids low high (flat_map (rows_of_master object.zones range) (masters object)) short c.requires.object.read.one_master alone refl in
    subst (λ (xs : List Row). IfOk c.master_rows.result (λ rows. rows ≡ xs)) found made
