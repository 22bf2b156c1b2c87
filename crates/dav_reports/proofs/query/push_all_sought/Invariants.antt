use Rattle.std.proofs.Common.{◌≡◌, ◌+◌, ◌≤◌, ◌++◌, Some, map}
use Rattle.std.specs.List.{AllByRecursion}
use Rattle.cal_model.specs.State.ServerState.{Calendar, calendar_at}
use Rattle.object_walk.specs.WalkedObjects.{HaveOriginsOf, named_octets, objects_at}
use Rattle.dav_reports.specs.CalendarObjects.{IsHeldRight, query_cost, sought_responses}
use Rattle.dav_reports.specs.SeenCalendars.{MayRead, reported_of}
use Rattle.dav_reports.proofs.CalendarWalks.{IsServed}
use Rattle.dav_reports.proofs.QueryWalks.{AreEntriesOf}
use Rattle.dav_reports.proofs.query.push_all_sought.Given as goal

-- the responses so far, and those of the objects that are left; the steps so far, and what those may cost
abbrev pub invariant-walk : goal.invariant-walk
invariant-walk g l =
    let directory = g.V.View.directory l.seen.view.now in
    let state = g.V.View.state l.seen.view.now in
    let held = g.P.Pieces.held l.pieces in
    let origin_of = g.V.View.origins l.seen.view.now l.home l.calendar in
    let rest = map named_octets l.stored-iterator in
    record {
      made : (c : Calendar) → MayRead directory state l.seen.who l.home l.calendar c
          → l.out ++ sought_responses (reported_of directory l.seen.who l.home l.calendar c) l.select l.zone l.props l.wanted rest ≡ l.initial.out ++ sought_responses (reported_of directory l.seen.who l.home l.calendar c) l.select l.zone l.props l.wanted c.objects;
      counted : l.steps + query_cost held l.select l.wanted origin_of rest ≤ l.initial.steps + query_cost held l.select l.wanted origin_of (objects_at state l.home l.calendar);
      origins : HaveOriginsOf origin_of l.stored-iterator;
      right : AllByRecursion (IsHeldRight held origin_of) rest;
      served : AllByRecursion IsServed rest;
      found : (c : Calendar) → calendar_at state l.home l.calendar ≡ Some c → AreEntriesOf c rest;
    }
