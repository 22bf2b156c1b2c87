use Rattle.std.proofs.Common.{length}
use Rattle.freebusy.proofs.Joining.{AreJoining}
use Rattle.freebusy.proofs.ends.joined.Given as goal

abbrev pub invariant-stretches : goal.invariant-stretches
invariant-stretches l = AreJoining l.found l.span l.rest l.fn.spans

abbrev pub decreases-stretches : goal.decreases-stretches
decreases-stretches l = length l.rest
