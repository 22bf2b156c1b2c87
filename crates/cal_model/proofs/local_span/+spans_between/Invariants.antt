use Rattle.std.proofs.Common.{◌-◌}
use Rattle.cal_model.proofs.local_span.+spans_between.Given as goal

-- how many stretches follow the first
abbrev pub decreases-spans_between : goal.decreases-spans_between
decreases-spans_between l = l.last - l.first
