use Rattle.std.proofs.Common.{◌∙◌, ◌∷◌, []}
use Rattle.std.specs.Prelude.{not}
use Rattle.std.proofs.lemmas.List.Elements.{All-tail}
use Rattle.cal_model.specs.declared.row.Row.{Row}
use Rattle.cal_model.specs.Instances.Alignment.{reading_of}
use Rattle.override_merge.specs.Conversions.{HasRowTimes}
use Rattle.override_merge.specs.NamedStarts.{has_name}
use Rattle.override_merge.specs.Parts.{lies_in}
use Rattle.override_merge.proofs.MergeLemmas.{filter_twice_more}
use Rattle.override_merge.proofs.merged.put_unnamed_rows.Goals as goal

pub rows-preserved : goal.rows-preserved
rows-preserved c =
    let first = c.in-Some.ensures.cases.0 in
    let row = rw c.requires.zones at c.unnamed.ensures.value in
    record {
      made = rw (c.in_ok-put_row.ensures, row)
          (filter_twice_more (lies_in c.args.object.now c.args.part) (λ (r : Row). not (has_name (reading_of c.args.object.now.zones c.args.ids) r.id c.args.names.now)) c.rows.out (c.in-Some.row.now ∷ []) c.in-Some.behind.now
          ∙ (rw first at c.rows.invariant.made));
      left = All-tail HasRowTimes c.in-Some.row.now c.in-Some.behind.now (rw first at c.rows.invariant.left);
    }
