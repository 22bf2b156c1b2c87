use Rattle.std.proofs.Common.{◌≡◌, ◌*◌, ◌++◌, length}
use Rattle.std.specs.Prelude.{filter}
use Rattle.cal_model.specs.Instances.Starts.{ascending}
use Rattle.cal_model.specs.Recurrence.NextPassing.{end_day}
use Rattle.cal_model.specs.Recurrence.RecurrenceSet.{first_moment}
use Rattle.cal_model.specs.Values.LocalTimes.{moment_of_local}
use Rattle.cal_model.specs.Walks.Clocks.{reading_by}
use Rattle.cal_model.specs.Walks.KeptMoments.{starts_by}
use Rattle.cal_model.specs.Walks.PickedRest.{IsPicks, still_given}
use Rattle.override_merge.specs.Conversions.{tables_of}
use Rattle.rrule_sets.specs.CountedRows.{is_left, starts_of_walk}
use Rattle.rrule_sets.proofs.count.with_moments.Given as goal

-- the starts so far, and those of the moments that are still given
abbrev pub invariant-moments : goal.invariant-moments
invariant-moments g l = record {
  picks : IsPicks l.rule (moment_of_local l.start) (reading_by l.clock).dated l.walk.picks;
  made : ascending (l.starts ++ filter (is_left (tables_of l.zones) l.stamp l.taken) (starts_by (reading_by l.clock) (still_given l.rule (moment_of_local l.start) (reading_by l.clock) first_moment (86_400 * end_day) l.walk)))
      ≡ ascending (l.fn.starts ++ filter (is_left (tables_of l.zones) l.stamp l.taken) (starts_of_walk (tables_of l.zones) l.stamp l.rule l.fn.walk));
}

abbrev pub decreases-moments : goal.decreases-moments
decreases-moments g l = length (still_given l.rule (moment_of_local l.start) (reading_by l.clock) first_moment (86_400 * end_day) l.walk)
