use Rattle.std.proofs.Common.{length}
use Rattle.cal_moment.proofs.lengths.+parts_behind.Given as goal

abbrev pub decreases-parts_behind : goal.decreases-parts_behind
decreases-parts_behind l = length l.units.now
