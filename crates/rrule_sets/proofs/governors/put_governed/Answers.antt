use Rattle.std.proofs.lemmas.List.Elements.{All-tail}
use Rattle.override_merge.specs.Conversions.{HasRowTimes}
use Rattle.rrule_sets.proofs.AskedLemmas.{more}
use Rattle.rrule_sets.proofs.governors.put_governed.Goals as goal

pub rows-preserved : goal.rows-preserved
rows-preserved c =
    let first = c.in-Some.ensures.cases.0 in
    record {
      made = rw (c.in_ok-put_row.ensures, c.governed.ensures) (more c.rows.out _ _ _ (rw first at c.rows.invariant.made));
      left = All-tail HasRowTimes c.in-Some.row.now c.in-Some.behind.now (rw first at c.rows.invariant.left);
    }
