use Rattle.std.proofs.Common.{◌<◌, length}
use Rattle.slot_finder.proofs.Passing.{IsPassing}
use Rattle.slot_finder.proofs.calendars.moved_on.Given as goal

abbrev pub invariant-calendars : goal.invariant-calendars
invariant-calendars l = record {
  passing : IsPassing l.fn.calendars l.rest l.fn.seconds l.fn.at l.found;
  within : l.number < 32;
}

abbrev pub decreases-calendars : goal.decreases-calendars
decreases-calendars l = length l.rest
