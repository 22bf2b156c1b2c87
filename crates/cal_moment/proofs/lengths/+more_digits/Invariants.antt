use Rattle.std.proofs.Common.{◌-◌}
use Rattle.cal_moment.proofs.lengths.+more_digits.Given as goal

abbrev pub decreases-more_digits : goal.decreases-more_digits
decreases-more_digits l = 9 - l.width
