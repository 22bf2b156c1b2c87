use Rattle.std.proofs.Common.{◌+◌, ◌-◌, length}
use Rattle.slot_times.proofs.SlotPaths.{AreFoundSo}
use Rattle.slot_times.proofs.slot_calendars.calendars_of.Given as goal

abbrev pub invariant-paths : goal.invariant-paths
invariant-paths g l =
    AreFoundSo (g.V.View.directory l.seen.view.now) (g.V.View.state l.seen.view.now) l.seen.who l.paths l.rest l.found (length l.paths - length l.rest + 1)

abbrev pub decreases-paths : goal.decreases-paths
decreases-paths g l = length l.rest
