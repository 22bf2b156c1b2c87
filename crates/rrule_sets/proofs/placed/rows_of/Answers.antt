use Rattle.std.proofs.Common.{◌∷◌, [], map}
use Rattle.rrule_sets.specs.declared.placed.Placed.{Placed}
use Rattle.rrule_sets.proofs.AskedLemmas.{more}
use Rattle.rrule_sets.proofs.placed.rows_of.Goals as goal

pub rows-preserved : goal.rows-preserved
rows-preserved c =
    let first = c.in-Some.ensures.cases.0 in
    record {
      made = rw c.in_ok-push.ensures.ok (more c.rows.rows (c.in-Some.placed.now.row ∷ []) (map (λ (p : Placed). p.row) c.in-Some.behind.now) (map (λ (p : Placed). p.row) c.args.placed.now) (rw first at c.rows.invariant.made));
    }
