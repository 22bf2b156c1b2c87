use Rattle.privileges.proofs.DigestSteps.{Tells}
use Rattle.privileges.proofs.digests.is_same.Given as goal

abbrev pub invariant-loop-place : goal.invariant-loop-place
invariant-loop-place l = Tells l.difference l.place l.digest l.other
