use Rattle.std.proofs.Common.{◌+◌, ◌≤◌, map}
use Rattle.std.specs.List.{AllByRecursion}
use Rattle.cal_model.specs.declared.report.ReportRequest.TheVariants.{FreeBusy}
use Rattle.object_walk.specs.WalkedObjects.{HaveOriginsOf, named_octets, objects_at}
use Rattle.dav_reports.specs.CalendarObjects.{IsHeldRight, entries_cost, times_of_entries}
use Rattle.dav_reports.proofs.CalendarWalks.{IsServed}
use Rattle.dav_reports.proofs.GatheredTimes.{AreLeftOf}
use Rattle.dav_reports.proofs.runs.runs_of_objects.Given as goal

-- the times of the objects that are left; the steps so far, and what those may cost
abbrev pub invariant-walk : goal.invariant-walk
invariant-walk g l =
    let state = g.V.View.state l.view in
    let held = g.P.Pieces.held l.pieces in
    let origin_of = g.V.View.origins l.view l.home l.name in
    let rest = map named_octets l.stored-iterator in
    record {
      made : AreLeftOf l.initial.times l.times (times_of_entries l.zone l.range (objects_at state l.home l.name)) (times_of_entries l.zone l.range rest);
      counted : l.steps + entries_cost held (FreeBusy l.range) origin_of rest ≤ l.initial.steps + entries_cost held (FreeBusy l.range) origin_of (objects_at state l.home l.name);
      origins : HaveOriginsOf origin_of l.stored-iterator;
      right : AllByRecursion (IsHeldRight held origin_of) rest;
      served : AllByRecursion IsServed rest;
    }
