use Rattle.std.proofs.Common.{◌∙◌, ◌∷◌, []}
use Rattle.std.proofs.lemmas.List.Elements.{All-tail}
use Rattle.override_merge.specs.Conversions.{HasRowTimes}
use Rattle.override_merge.specs.Parts.{lies_in}
use Rattle.override_merge.proofs.MergeLemmas.{filter_more}
use Rattle.override_merge.proofs.merged.put_asked_rows.Goals as goal

pub rows-preserved : goal.rows-preserved
rows-preserved c =
    let first = c.in-Some.ensures.cases.0 in
    record {
      made = rw c.in_ok-put_row.ensures (filter_more (lies_in c.args.object.now c.args.part) c.rows.out (c.in-Some.row.now ∷ []) c.in-Some.behind.now ∙ (rw first at c.rows.invariant.made));
      left = All-tail HasRowTimes c.in-Some.row.now c.in-Some.behind.now (rw first at c.rows.invariant.left);
    }
