use Rattle.std.proofs.Common.{◌<◌, ◌-◌, length}
use Rattle.filter_eval.proofs.moments.reach_of.Given as goal

abbrev pub invariant-doubling : goal.invariant-doubling
invariant-doubling l = 0 < l.reach

abbrev pub decreases-doubling : goal.decreases-doubling
decreases-doubling l = length l.moments - l.reach
