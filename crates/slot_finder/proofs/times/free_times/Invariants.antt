use Rattle.slot_finder.specs.FreeTimes.{free_of_runs}
use Rattle.slot_finder.proofs.Picking.{AreFound}
use Rattle.slot_finder.proofs.times.free_times.Given as goal

abbrev pub invariant-times : goal.invariant-times
invariant-times l = AreFound (free_of_runs l.runs) l.fn.range l.fn.seconds l.fn.most l.found l.from.0 l.left

abbrev pub decreases-times : goal.decreases-times
decreases-times l = l.left
