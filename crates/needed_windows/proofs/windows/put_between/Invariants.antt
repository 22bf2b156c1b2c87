use Rattle.std.proofs.Common.{◌≡◌, ◌-◌, ◌++◌}
use Rattle.cal_model.specs.Words.Lists.{numbers_between}
use Rattle.needed_windows.specs.Stretches.{windows_at}
use Rattle.needed_windows.proofs.windows.put_between.Given as goal

-- the windows so far, and those that are left
abbrev pub invariant-places : goal.invariant-places
invariant-places l = l.out ++ windows_at (numbers_between l.place l.end) ≡ l.initial.out ++ windows_at (numbers_between l.first l.end)

abbrev pub decreases-places : goal.decreases-places
decreases-places l = l.end - l.place
