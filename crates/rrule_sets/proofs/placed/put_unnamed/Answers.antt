use Rattle.std.proofs.Common.{◌++◌, ◌∙◌, ◌∷◌, [], ap}
use Rattle.std.specs.Prelude.{filter, not}
use Rattle.std.proofs.lemmas.List.Elements.{All-tail}
use Rattle.cal_model.specs.declared.row.Row.{Row}
use Rattle.cal_model.specs.Instances.Alignment.{reading_of}
use Rattle.cal_model.specs.Instances.Rows.{lies_in_window}
use Rattle.override_merge.specs.Conversions.{HasRowTimes}
use Rattle.override_merge.specs.NamedStarts.{has_name}
use Rattle.override_merge.proofs.MergeLemmas.{filter_twice_more}
use Rattle.rrule_sets.specs.PlacedRows.{rows_at}
use Rattle.rrule_sets.proofs.placed.put_unnamed.Goals as goal

pub rows-preserved : goal.rows-preserved
rows-preserved c =
    let first = c.in-Some.ensures.cases.0 in
    let row = rw c.requires.zones at c.unnamed.ensures.value in
    record {
      made = λ window.
          ap (λ xs. xs ++ filter (lies_in_window c.args.object.now window) (filter (λ (r : Row). not (has_name (reading_of c.args.object.now.zones c.args.ids) r.id c.args.names.now)) c.in-Some.behind.now))
          (c.in_ok-put_placed.ensures window ∙ ap (λ rows. rows_at window c.rows.out ++ filter (lies_in_window c.args.object.now window) rows) row)
          ∙ (filter_twice_more (lies_in_window c.args.object.now window) (λ (r : Row). not (has_name (reading_of c.args.object.now.zones c.args.ids) r.id c.args.names.now)) (rows_at window c.rows.out) (c.in-Some.row.now ∷ []) c.in-Some.behind.now
          ∙ (rw first at (c.rows.invariant.made window)));
      left = All-tail HasRowTimes c.in-Some.row.now c.in-Some.behind.now (rw first at c.rows.invariant.left);
    }
