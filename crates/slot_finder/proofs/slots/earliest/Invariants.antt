use Rattle.slot_finder.specs.FreeTimes.{free_of_runs}
use Rattle.slot_finder.proofs.Searching.{IsSearched, seconds_between}
use Rattle.slot_finder.proofs.slots.earliest.Given as goal

abbrev pub invariant-passes : goal.invariant-passes
invariant-passes l = IsSearched (free_of_runs l.runs) l.fn.range l.fn.seconds l.at

abbrev pub decreases-passes : goal.decreases-passes
decreases-passes l = seconds_between l.at l.fn.range.end.0
