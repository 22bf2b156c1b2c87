use Rattle.std.proofs.Common.{◌+◌, ◌++◌, ◌∙◌, ap, arith, length}
use Rattle.std.specs.Prelude.{filter}
use Rattle.std.proofs.lemmas.List.Elements.{All-head, All-tail}
use Rattle.cal_model.specs.Instances.Rows.{lies_in_window}
use Rattle.override_merge.specs.Conversions.{HasConvertibleRow}
use Rattle.override_merge.specs.Parts.{own_row_by, own_rows_by}
use Rattle.override_merge.proofs.MergeLemmas.{filter_more, zones_count}
use Rattle.rrule_sets.specs.PlacedRows.{rows_at}
use Rattle.rrule_sets.proofs.placed.put_own.Goals as goal

pub own_row-requires-clause-component : goal.own_row-requires-clause-component
own_row-requires-clause-component c =
    let first = c.in-Some.ensures.cases.0 in
    rw (zones_count c.args.zones.now c.args.object.now.zones c.requires.zones)
    (All-head (HasConvertibleRow (length c.args.object.now.zones)) c.in-Some.component.now c.in-Some.behind.now (rw first at c.overrides.invariant.left))

pub overflow_add-number : goal.overflow_add-number
overflow_add-number c =
    let counted = c.overrides.invariant.counted in
    let size = ap length c.in-Some.ensures.cases.0 in
    let few = c.requires.object.numbers in
    omega (arith, counted, size, few)

pub overrides-preserved : goal.overrides-preserved
overrides-preserved c =
    let first = c.in-Some.ensures.cases.0 in
    let zones = c.args.object.now.zones in
    let here = own_row_by zones c.args.ids c.args.days.now c.in-Some.component.now c.overrides.number in
    let behind = own_rows_by zones c.args.ids c.args.days.now (c.overrides.number + 1) c.in-Some.behind.now in
    let row = rw c.requires.zones at c.own_row.ensures.value in
    let counted = c.overrides.invariant.counted in
    let size = ap length first in
    record {
      made = λ window.
          ap (λ xs. xs ++ filter (lies_in_window c.args.object.now window) behind) (c.in_ok-put_placed.ensures window ∙ ap (λ rows. rows_at window c.overrides.out ++ filter (lies_in_window c.args.object.now window) rows) row)
          ∙ (filter_more (lies_in_window c.args.object.now window) (rows_at window c.overrides.out) here behind ∙ (rw first at (c.overrides.invariant.made window)));
      counted = omega (arith, counted, size);
      left = All-tail (HasConvertibleRow (length zones)) c.in-Some.component.now c.in-Some.behind.now (rw first at c.overrides.invariant.left);
    }
