use Rattle.std.proofs.Common.{◌≡◌, ◌∙◌, ◌++◌, [], ap, refl}
use Rattle.std.specs.Prelude.{filter, not}
use Rattle.cal_model.specs.declared.row.Row.{Row}
use Rattle.cal_model.specs.Instances.Alignment.{reading_of}
use Rattle.cal_model.specs.Instances.Rows.{lies_in_window}
use Rattle.cal_model.proofs.Instances.RisingLists.{ascending-rising}
use Rattle.override_merge.specs.declared.rows.Part.TheVariants as part
use Rattle.override_merge.specs.Conversions.{tables_of}
use Rattle.override_merge.specs.NamedStarts.{days_in, has_name, named_beside, values_in}
use Rattle.override_merge.specs.Parts.{own_rows_by}
use Rattle.override_merge.proofs.MergeLemmas.{merged_parts}
use Rattle.rrule_sets.specs.PlacedRows.{rows_at}
use Rattle.rrule_sets.proofs.placed.placed_rows.Goals as goal

pub put_unnamed-requires-clause-values : goal.put_unnamed-requires-clause-values
put_unnamed-requires-clause-values c =
    rw c.in_ok-names.ensures.values (ascending-rising (values_in (named_beside (tables_of c.args.zones.now) c.args.ids c.as_slice.result.now)))

pub put_unnamed-requires-clause-days : goal.put_unnamed-requires-clause-days
put_unnamed-requires-clause-days c =
    rw c.in_ok-names.ensures.days (ascending-rising (days_in (named_beside (tables_of c.args.zones.now) c.args.ids c.as_slice.result.now)))

pub returns-clause-rows : goal.returns-clause-rows
returns-clause-rows c = λ window.
    let object = c.args.object.now in
    let named = rw (c.requires.zones, c.as_slice.ensures) at c.in_ok-names.ensures in
    let kept = rw c.requires.zones at c.in_ok-days.ensures.kept in
    let parts = merged_parts object c.args.ids c.args.rows.now c.in_ok-days.days kept c.in_ok-names.names (part.Window window) named in
    let own = rw c.as_slice-2.ensures at (c.in_ok-put_own.ensures window) in
    let others = c.in_ok-put_unnamed.ensures window in
    let none : rows_at window c.new-out.result ≡ [] = rw c.new-out.ensures refl in
    c.in_ok-placed.ensures.kept window
    ∙ (others
    ∙ (ap (λ xs. xs ++ filter (lies_in_window object window) (filter (λ (r : Row). not (has_name (reading_of object.zones c.args.ids) r.id c.in_ok-names.names)) c.args.rows.now)) (own ∙ ap (λ xs. xs ++ filter (lies_in_window object window) (own_rows_by object.zones c.args.ids c.in_ok-days.days 0 object.components)) none)
    ∙ parts))
