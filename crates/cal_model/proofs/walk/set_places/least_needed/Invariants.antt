use Rattle.std.proofs.Common.{take}
use Rattle.cal_model.specs.Walks.SetPlaces.{NeedsPlaces}
use Rattle.cal_model.proofs.walk.set_places.least_needed.Given as goal

-- fewer places have none of the numbers so far
abbrev pub invariant-loop-k : goal.invariant-loop-k
invariant-loop-k l = NeedsPlaces (take l.k l.numbers) l.least
