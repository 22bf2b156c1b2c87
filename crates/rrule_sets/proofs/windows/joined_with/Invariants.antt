use Rattle.std.proofs.Common.{length}
use Rattle.rrule_sets.proofs.SeveralLemmas.{IsJoinedSoFar}
use Rattle.rrule_sets.proofs.windows.joined_with.Given as goal

abbrev pub invariant-widening : goal.invariant-widening
invariant-widening l = record { joined : IsJoinedSoFar l.fn.first l.each l.rest l.range }

abbrev pub decreases-widening : goal.decreases-widening
decreases-widening l = length l.rest
