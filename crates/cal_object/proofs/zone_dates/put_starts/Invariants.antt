use Rattle.std.proofs.Common.{◌≡◌, ◌++◌, length, map, All}
use Rattle.cal_moment.specs.declared.stamp.Period.{Period}
use Rattle.cal_model.specs.Values.StampTexts as texts
use Rattle.cal_object.specs.PartDates.{StartsAtMoment}
use Rattle.cal_object.proofs.zone_dates.put_starts.Given as goal

-- what was put there, and the digits of the periods to come, are all
abbrev pub invariant-periods : goal.invariant-periods
invariant-periods l = record {
  moments : All StartsAtMoment l.rest;
  all : l.dates ++ map texts.local_digits (map (λ (period : Period). period.start) l.rest) ≡ l.fn.dates ++ map texts.local_digits (map (λ (period : Period). period.start) l.periods);
}

abbrev pub decreases-periods : goal.decreases-periods
decreases-periods l = length l.rest
