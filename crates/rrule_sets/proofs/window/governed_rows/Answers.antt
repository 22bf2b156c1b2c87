use Rattle.std.proofs.Common.{◌≡◌, sym, subst, length, List}
use Rattle.std.specs.Prelude.{All}
use Rattle.std.proofs.lemmas.Result.{IfOk-weaker}
use Rattle.cal_model.specs.declared.row.Row.{Row}
use Rattle.override_merge.specs.Conversions.{HasRowTimes}
use Rattle.override_merge.proofs.MergeLemmas.{zones_count}
use Rattle.override_merge.proofs.StampLemmas.{ids_convertible}
use Rattle.rrule_sets.specs.MasterRows.{governed_rows}
use Rattle.rrule_sets.proofs.WindowLemmas.{rows_moved, rows_near}
use Rattle.rrule_sets.proofs.window.governed_rows.Goals as goal

pub master_rows-requires-clause-components : goal.master_rows-requires-clause-components
master_rows-requires-clause-components g c =
    let count = zones_count c.args.zones.now c.args.object.now.zones c.requires.zones in
    rw (c.as_slice-components.ensures, count) c.requires.object.components

pub master_rows-requires-clause-few : goal.master_rows-requires-clause-few
master_rows-requires-clause-few g c = rw c.as_slice-components.ensures c.requires.object.rows.numbers

pub master_rows-requires-clause-one : goal.master_rows-requires-clause-one
master_rows-requires-clause-one g c = rw c.as_slice-components.ensures c.requires.object.read.one_master

pub moved_rows-requires-clause-ids : goal.moved_rows-requires-clause-ids
moved_rows-requires-clause-ids g c =
    let object = c.args.object.now in
    let count = zones_count c.args.zones.now object.zones c.requires.zones in
    rw count (ids_convertible (length object.zones) object c.args.ids c.requires.object.rows.components c.requires.ids).zone

pub moved_rows-requires-clause-near : goal.moved_rows-requires-clause-near
moved_rows-requires-clause-near g c =
    let made = rw (c.requires.zones, c.as_slice-components.ensures) at c.in_ok-rows.ensures.rows in
    subst (All HasRowTimes) (sym made) (rows_near c.args.object.now c.args.range c.requires.object.read)

pub returns-clause-rows : goal.returns-clause-rows
returns-clause-rows g c =
    let object = c.args.object.now in
    let made = rw (c.requires.zones, c.as_slice-components.ensures) at c.in_ok-rows.ensures.rows in
    IfOk-weaker c.moved_rows.result _ (λ (rows : List Row). rows ≡ governed_rows object c.args.ids c.args.range)
    (λ rows is. rows_moved object c.args.ids c.args.range c.in_ok-rows.rows rows c.requires.ids c.requires.object.read.one_master made is) c.moved_rows.ensures
