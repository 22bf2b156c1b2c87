use Rattle.std.proofs.Common.{◌∙◌, ap, List}
use Rattle.cal_model.specs.declared.zone.ZoneTable.{ZoneTable}
use Rattle.cal_model.specs.Instances.HappensOnce.{row_from_start, window_of_start}
use Rattle.rrule_sets.proofs.OnceLemmas.{convertible_once, plain_is, row_convertible, rows_once, start_convertible}
use Rattle.rrule_sets.proofs.once.only_row.Goals as goal

pub row_from_start-requires-clause-zones : goal.row_from_start-requires-clause-zones
row_from_start-requires-clause-zones c =
    let found = rw c.as_slice.ensures at c.in_ok-component.ensures in
    rw c.as_slice-zones.ensures (convertible_once c.args.object.now c.in_ok-component.component.now c.requires found.0).zones

pub row_from_start-requires-clause-stamp : goal.row_from_start-requires-clause-stamp
row_from_start-requires-clause-stamp c =
    let found = rw c.as_slice.ensures at c.in_ok-component.ensures in
    rw c.as_slice-zones.ensures (start_convertible c.args.object.now c.in_ok-component.component.now c.in_ok-component.stamp c.requires found.0 found.1.1)

pub row_from_start-requires-clause-extent : goal.row_from_start-requires-clause-extent
row_from_start-requires-clause-extent c =
    let found = rw c.as_slice.ensures at c.in_ok-component.ensures in
    rw c.as_slice-zones.ensures (row_convertible c.args.object.now c.in_ok-component.component.now c.requires found.0).extent

pub returns-clause-rows : goal.returns-clause-rows
returns-clause-rows c =
    let found = rw c.as_slice.ensures at c.in_ok-component.ensures in
    let stamp = c.in_ok-component.stamp in
    let extent = c.in_ok-component.component.now.extent in
    let row = c.row_from_start.ensures.row ∙ ap (λ (zones : List ZoneTable). row_from_start zones stamp extent) c.as_slice-zones.ensures in
    let window = c.row_from_start.ensures.window ∙ ap (λ (zones : List ZoneTable). window_of_start zones stamp) c.as_slice-zones.ensures in
    rw (row, window)
    (rows_once c.args.object.now c.in_ok-component.component.now c.in_ok-component.stamp (plain_is c.in_ok-component.component.now found.1.0) found.0 found.1.1)

pub returns-clause-only : goal.returns-clause-only
returns-clause-only c =
    let found = rw c.as_slice.ensures at c.in_ok-component.ensures in
    let stamp = c.in_ok-component.stamp in
    let extent = c.in_ok-component.component.now.extent in
    record {
      component = c.in_ok-component.component.now;
      stamp = stamp;
      alone = found.0;
      plain = found.1.0;
      start = found.1.1;
      is = c.row_from_start.ensures.row ∙ ap (λ (zones : List ZoneTable). row_from_start zones stamp extent) c.as_slice-zones.ensures;
    }
