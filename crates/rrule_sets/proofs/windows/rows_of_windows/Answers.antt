use Rattle.std.proofs.lemmas.List.Elements.{All-head, All-tail}
use Rattle.cal_model.specs.Instances.Rows.{rows_in}
use Rattle.rrule_sets.specs.declared.windows.Needed.{Needed}
use Rattle.rrule_sets.specs.NeededDigits.{HasRange}
use Rattle.rrule_sets.specs.SeveralWindows.{HasNeeded}
use Rattle.rrule_sets.proofs.AskedLemmas.{more}
use Rattle.rrule_sets.proofs.windows.rows_of_windows.Goals as goal

pub put_window-requires-clause-needed : goal.put_window-requires-clause-needed
put_window-requires-clause-needed c =
    let object = c.args.object.now in
    All-head (HasNeeded object.zones c.args.ids object.components) c.in-Some.needed.now c.in-Some.behind.now (rw c.in-Some.ensures.cases.0 at c.windows.invariant.needed)

pub windows-preserved : goal.windows-preserved
windows-preserved c =
    let object = c.args.object.now in
    let first = c.in-Some.ensures.cases.0 in
    let put = c.in_ok-put_window.ensures in
    let needed = c.in-Some.needed.now in
    record {
      made = rw put (more c.windows.out (rows_in object needed.window) _ _ (rw first at c.windows.invariant.made));
      range = All-tail (λ (n : Needed). HasRange c.args.range n.range) needed c.in-Some.behind.now (rw first at c.windows.invariant.range);
      needed = All-tail (HasNeeded object.zones c.args.ids object.components) needed c.in-Some.behind.now (rw first at c.windows.invariant.needed);
    }
