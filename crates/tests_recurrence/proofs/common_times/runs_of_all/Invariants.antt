use Rattle.std.specs.Prelude.{All}
use Rattle.slot_finder.specs.FreeTimes.{AreInOrder}
use Rattle.tests_recurrence.proofs.common_times.runs_of_all.Given as goal

abbrev pub invariant-calendars : goal.invariant-calendars
invariant-calendars l = All AreInOrder l.all
