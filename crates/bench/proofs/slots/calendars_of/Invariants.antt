use Rattle.std.specs.Prelude.{All}
use Rattle.slot_finder.specs.FreeTimes.{AreInOrder}
use Rattle.bench.proofs.slots.calendars_of.Given as goal

abbrev pub invariant-calendars : goal.invariant-calendars
invariant-calendars l = All AreInOrder l.all
