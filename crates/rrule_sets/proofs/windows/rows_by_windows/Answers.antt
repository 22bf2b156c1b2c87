use Rattle.std.proofs.Common.{◌≡◌, ◌∙◌, ap, sym, subst, length, rules, FitsSigned, w32, to_z-of_z}
use Rattle.std.specs.Prelude.{All}
use Rattle.std.proofs.lemmas.List.Elements.{All-head, All-tail}
use Rattle.cal_model.specs.Instances.Rows.{in_order, rows_in}
use Rattle.cal_model.specs.Ranges.Nearness.{HasShortOffsets}
use Rattle.override_merge.specs.Conversions.{HasRowTimes}
use Rattle.override_merge.proofs.MergeLemmas.{zones_count}
use Rattle.override_merge.proofs.StampLemmas.{ids_convertible}
use Rattle.rrule_sets.specs.declared.windows.Needed.{Needed}
use Rattle.rrule_sets.specs.MovedStarts.{offset_bound}
use Rattle.rrule_sets.specs.NeededDigits.{HasRange}
use Rattle.rrule_sets.specs.PlacedRows.{merged_in, rows_at}
use Rattle.rrule_sets.specs.SeveralWindows.{HasNeeded}
use Rattle.rrule_sets.proofs.AskedLemmas.{more}
use Rattle.rrule_sets.proofs.DateStarts.{short_tables}
use Rattle.rrule_sets.proofs.MovedLemmas.{needed-for, offsets-below, some_offset}
use Rattle.rrule_sets.proofs.PlacedLemmas.{window_placed}
use Rattle.rrule_sets.proofs.WindowLemmas.{governed_near}
use Rattle.rrule_sets.proofs.windows.rows_by_windows.Goals as goal

pub placed_rows-requires-clause-ids : goal.placed_rows-requires-clause-ids
placed_rows-requires-clause-ids c =
    let object = c.args.object.now in
    let count = zones_count c.args.zones.now object.zones c.requires.zones in
    rw count (ids_convertible (length object.zones) object c.args.ids c.requires.object.rows.components c.requires.ids).zone

pub placed_rows-requires-clause-near : goal.placed_rows-requires-clause-near
placed_rows-requires-clause-near c =
    let short = subst (All HasShortOffsets) c.requires.zones (short_tables c.args.zones.now) in
    subst (All HasRowTimes) (sym c.requires.rows) (governed_near c.args.object.now c.args.ids c.args.range c.requires.object.read short)

pub put_rows_of-requires : goal.put_rows_of-requires
put_rows_of-requires c = rw c.as_slice.ensures c.in_ok-placed.ensures.rising

pub windows-preserved : goal.windows-preserved
windows-preserved c =
    let object = c.args.object.now in
    let first = c.in-Some.ensures.cases.0 in
    let needed = c.in-Some.needed.now in
    let fits : FitsSigned w32 needed.window = search rules in
    let short = subst (All HasShortOffsets) c.requires.zones (short_tables c.args.zones.now) in
    let its = All-head (HasNeeded object.zones c.args.ids object.components) needed c.in-Some.behind.now (rw first at c.windows.invariant.needed) in
    let wider = All-head (λ (n : Needed). HasRange c.args.range n.range) needed c.in-Some.behind.now (rw first at c.windows.invariant.range) in
    let found = window_placed (offset_bound object.zones) (some_offset object.zones) object c.args.ids needed c.args.range (offsets-below object.zones short) short c.requires.ids c.requires.object.read.one_master (needed-for object c.args.ids needed c.requires.ids short its) wider in
    let at : rows_at needed.window c.as_slice.result.now ≡ merged_in object c.args.ids c.args.rows.now needed.window = ap (rows_at needed.window) c.as_slice.ensures ∙ c.in_ok-placed.ensures.rows needed.window in
    let is : in_order (rows_at needed.window c.as_slice.result.now) ≡ rows_in object needed.window = ap in_order (at ∙ ap (λ rows. merged_in object c.args.ids rows needed.window) c.requires.rows) ∙ found in
    let put = rw is at (simp to_z-of_z at c.in_ok-put_rows_of.ensures) in
    record {
      made = rw put (more c.windows.out (rows_in object needed.window) _ _ (rw first at c.windows.invariant.made));
      range = All-tail (λ (n : Needed). HasRange c.args.range n.range) needed c.in-Some.behind.now (rw first at c.windows.invariant.range);
      needed = All-tail (HasNeeded object.zones c.args.ids object.components) needed c.in-Some.behind.now (rw first at c.windows.invariant.needed);
    }
