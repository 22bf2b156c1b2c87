use Rattle.std.proofs.Common.{length}
use Rattle.slot_finder.proofs.Passing.{IsDrawnBack}
use Rattle.slot_finder.proofs.calendars.free_until.Given as goal

abbrev pub invariant-calendars : goal.invariant-calendars
invariant-calendars l = IsDrawnBack l.fn.calendars l.rest l.fn.at l.fn.limit l.found

abbrev pub decreases-calendars : goal.decreases-calendars
decreases-calendars l = length l.rest
