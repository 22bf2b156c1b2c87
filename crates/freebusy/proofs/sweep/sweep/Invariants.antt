use Rattle.freebusy.specs.Ends.{open_class}
use Rattle.freebusy.specs.Left.{AreLeft}
use Rattle.freebusy.specs.Sweep.{in_order}
use Rattle.freebusy.proofs.Stretches.{seconds_between}
use Rattle.freebusy.proofs.Sweeping.{IsSwept}
use Rattle.freebusy.proofs.sweep.sweep.Given as goal

abbrev pub invariant-stretches : goal.invariant-stretches
invariant-stretches l = IsSwept (open_class l.classes) l.fn.range.start.0 l.fn.range.end.0 l.left.upper (in_order l.found) × AreLeft l.classes l.left

abbrev pub decreases-stretches : goal.decreases-stretches
decreases-stretches l = seconds_between l.fn.range.start.0 l.left.upper
