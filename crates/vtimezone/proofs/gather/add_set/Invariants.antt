use Rattle.std.proofs.Common.{◌≡◌, ◌+◌, ◌++◌, length}
use Rattle.cal_model.specs.Recurrence.RecurrenceSet.{every_moment}
use Rattle.cal_model.specs.Values.LocalTimes.{moment_of_local}
use Rattle.cal_model.specs.TimeZones.ZoneOnsets as zone
use Rattle.cal_model.specs.Walks.Clocks.{reading_by}
use Rattle.cal_model.specs.Walks.PickedRest.{IsPicks, still_given}
use Rattle.vtimezone.specs.Gathered as spec
use Rattle.vtimezone.proofs.gather.add_set.Given as goal

-- what was put there, and what the walk still gives, are all
abbrev pub invariant-rule : goal.invariant-rule
invariant-rule g l = record {
  picks : IsPicks l.rule (moment_of_local l.part.start) (reading_by l.clock).dated l.walk.picks;
  all : spec.changes_of l.changes ++ spec.changes_at l.part (still_given l.rule (moment_of_local l.part.start) (reading_by l.clock) 31_622_400 (moment_of_local l.end) l.walk)
      ≡ spec.changes_of l.fn.changes ++ spec.changes_at l.part (zone.rule_moments every_moment l.part l.rule);
  room : l.room + length (zone.rule_moments every_moment l.part l.rule)
      ≡ l.fn.room + length (still_given l.rule (moment_of_local l.part.start) (reading_by l.clock) 31_622_400 (moment_of_local l.end) l.walk);
}

abbrev pub decreases-rule : goal.decreases-rule
decreases-rule g l = length (still_given l.rule (moment_of_local l.part.start) (reading_by l.clock) 31_622_400 (moment_of_local l.end) l.walk)
