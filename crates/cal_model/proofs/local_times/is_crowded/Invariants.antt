use Rattle.std.proofs.Common.{length, ◌-◌, ◌≤◌}
use Rattle.cal_model.proofs.local_times.is_crowded.Given as goal

abbrev pub invariant-groups : goal.invariant-groups
invariant-groups l = 16 ≤ l.next

abbrev pub decreases-groups : goal.decreases-groups
decreases-groups l = length l.onsets - l.next
