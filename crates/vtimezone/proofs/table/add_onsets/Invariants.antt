use Rattle.std.proofs.Common.{◌≡◌, ◌++◌, map, length}
use Rattle.cal_model.specs.TimeZones.ZoneOnsets as zone
use Rattle.vtimezone.specs.Gathered as spec
use Rattle.vtimezone.proofs.table.add_onsets.Given as goal

-- what was put there, and the onsets of the changes to come, are all
abbrev pub invariant-loop-one : goal.invariant-loop-one
invariant-loop-one l = l.onsets ++ map zone.as_onset (spec.changes_of l.rest) ≡ l.fn.onsets ++ map zone.as_onset (spec.changes_of l.changes)

abbrev pub decreases-loop-one : goal.decreases-loop-one
decreases-loop-one l = length l.rest
