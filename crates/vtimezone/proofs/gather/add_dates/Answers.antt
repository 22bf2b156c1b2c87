use Rattle.std.proofs.Common.{◌∷◌, ◌++◌, [], map}
use Rattle.cal_model.specs.Recurrence.RuleBounds.{IsWritten}
use Rattle.cal_model.specs.Values.LocalTimes.{moment_of_local}
use Rattle.std.proofs.lemmas.List.Elements.{All-tail}
use Rattle.vtimezone.specs.Gathered as spec
use Rattle.vtimezone.proofs.GatherLemmas.{gathered_more}
use Rattle.vtimezone.proofs.gather.add_dates.Goals as goal

pub loop-date-preserved : goal.loop-date-preserved
loop-date-preserved c =
    let e = c.in-Some.ensures.cases.0 in
    let inv = c.loop-date.invariant in
    record {
      dates = All-tail IsWritten c.in-Some.date.now c.in-Some.behind.now (rw e at inv.dates);
      all = gathered_more c.args.part.now (spec.changes_of c.loop-date.changes) (spec.changes_of c.add_change.new.changes)
          (spec.changes_of c.args.changes.now ++ spec.changes_at c.args.part.now (map moment_of_local c.args.dates.now))
          (moment_of_local c.in-Some.date.now ∷ []) (map moment_of_local c.in-Some.behind.now) c.in_ok-add_change.ensures (rw e at inv.all);
    }
