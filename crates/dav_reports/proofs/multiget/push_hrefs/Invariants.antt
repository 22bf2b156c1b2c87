use Rattle.std.proofs.Common.{◌≡◌, ℕ, List, ◌+◌, ◌≤◌, ◌++◌, length}
use Rattle.std.specs.Prelude.{flat_map}
use Rattle.std.specs.List.{AllByRecursion}
use Rattle.cal_base.specs.Lists.NameMap.{Named}
use Rattle.cal_model.specs.Serving.ReportReplies.{href_response}
use Rattle.cal_model.specs.State.ServerState.{Calendar}
use Rattle.dav_reports.specs.CalendarObjects.{NamesAmong}
use Rattle.dav_reports.specs.MetObjects.{AreResponses, AreWithin, multiget_cost, unmet_cost}
use Rattle.dav_reports.specs.SeenCalendars.{MayRead, reported_of}
use Rattle.dav_reports.proofs.multiget.push_hrefs.Given as goal

-- the responses so far, and those of the hrefs that are left; the steps so far, and what those of the objects that hrefs name may cost that were not met; and where the responses of the others stand
abbrev pub invariant-hrefs : goal.invariant-hrefs
invariant-hrefs g l =
    let directory = g.V.View.directory l.seen.view.now in
    let state = g.V.View.state l.seen.view.now in
    let held = g.P.Pieces.held l.pieces in
    let origin_of = g.V.View.origins l.seen.view.now l.home l.calendar in
    record {
      within : AreWithin l.met (length l.out);
      left : (entries : Named (List ℕ)) → AllByRecursion (NamesAmong directory state l.home l.calendar entries) l.hrefs → AllByRecursion (NamesAmong directory state l.home l.calendar entries) l.rest;
      counted : (entries : Named (List ℕ)) → AllByRecursion (NamesAmong directory state l.home l.calendar entries) l.hrefs
          → l.steps + unmet_cost held l.select origin_of l.met entries ≤ l.initial.steps + multiget_cost held l.select origin_of entries;
      said : (c : Calendar) → MayRead directory state l.seen.who l.home l.calendar c → AreResponses (reported_of directory l.seen.who l.home l.calendar c) l.select l.zone l.props l.met l.out;
      made : (c : Calendar) → MayRead directory state l.seen.who l.home l.calendar c
          → l.out ++ flat_map (href_response (reported_of directory l.seen.who l.home l.calendar c) l.select l.zone l.props) l.rest
          ≡ l.initial.out ++ flat_map (href_response (reported_of directory l.seen.who l.home l.calendar c) l.select l.zone l.props) l.hrefs;
    }

abbrev pub decreases-hrefs : goal.decreases-hrefs
decreases-hrefs g l = length l.rest
