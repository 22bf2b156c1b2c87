use Rattle.std.proofs.Common.{length}
use Rattle.slot_times.proofs.SlotRuns.{AreRunsSo}
use Rattle.slot_times.proofs.slot_calendars.runs_under.Given as goal

abbrev pub invariant-calendars : goal.invariant-calendars
invariant-calendars g l = AreRunsSo (g.V.View.state l.seen.view.now) l.range l.calendars l.rest l.runs

abbrev pub decreases-calendars : goal.decreases-calendars
decreases-calendars g l = length l.rest
