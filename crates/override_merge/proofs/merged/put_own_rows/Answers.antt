use Rattle.std.proofs.Common.{◌+◌, ◌∙◌, ap, arith, length}
use Rattle.std.proofs.lemmas.List.Elements.{All-head, All-tail}
use Rattle.override_merge.specs.Conversions.{HasConvertibleRow}
use Rattle.override_merge.specs.Parts.{lies_in, own_row_by, own_rows_by}
use Rattle.override_merge.proofs.MergeLemmas.{filter_more, zones_count}
use Rattle.override_merge.proofs.merged.put_own_rows.Goals as goal

pub own_row-requires-clause-component : goal.own_row-requires-clause-component
own_row-requires-clause-component c =
    let first = c.in-Some.ensures.cases.0 in
    rw (zones_count c.args.zones.now c.args.object.now.zones c.requires.zones)
    (All-head (HasConvertibleRow (length c.args.object.now.zones)) c.in-Some.component.now c.in-Some.behind.now (rw first at c.overrides.invariant.left))

pub overrides-preserved-then-not-is_empty : goal.overrides-preserved-then-not-is_empty
overrides-preserved-then-not-is_empty c =
    let first = c.in-Some.ensures.cases.0 in
    let zones = c.args.object.now.zones in
    let here = own_row_by zones c.args.ids c.args.days.now c.in-Some.component.now c.overrides.number in
    let behind = own_rows_by zones c.args.ids c.args.days.now (c.overrides.number + 1) c.in-Some.behind.now in
    let row = rw c.requires.zones at c.own_row.ensures.value in
    let counted = c.overrides.invariant.counted in
    let size = ap length first in
    record {
      made = rw (c.in_ok-put_row.ensures, row) (filter_more (lies_in c.args.object.now c.args.part) c.overrides.out here behind ∙ (rw first at c.overrides.invariant.made));
      counted = omega (arith, counted, size);
      left = All-tail (HasConvertibleRow (length zones)) c.in-Some.component.now c.in-Some.behind.now (rw first at c.overrides.invariant.left);
    }
