use Rattle.std.proofs.Common.{◌≡◌, List, ◌++◌, length, false}
use Rattle.std.specs.List.{AllByRecursion}
use Rattle.caldav_server.specs.LoadJobs.{HasJoined}
use Rattle.caldav_server.specs.LoadSums.{AreAdded, IsBack, passes_of}
use Rattle.caldav_server.specs.declared.load_sessions.Done.{Done}
use Rattle.caldav_server.proofs.load_joins.joined.Given as goal

abbrev pub invariant-joins : goal.invariant-joins
invariant-joins l = record {
  before : List Done;
  parts : l.fn.done.items ≡ before ++ l.rest;
  pass : (l.pass.lock ≡ l.service) × (l.pass.holds_turn ≡ false);
  back : AllByRecursion (λ done. IsBack l.service done.pass) l.rest;
  joined : HasJoined l.fn.pass l.pass (passes_of before);
  tally : AreAdded before l.tally;
}

abbrev pub decreases-joins : goal.decreases-joins
decreases-joins l = length l.rest
