use Rattle.std.proofs.Common.{◌≡◌, ◌++◌, length, map, All}
use Rattle.cal_model.specs.Values.StampTexts as texts
use Rattle.cal_object.specs.PartDates.{HasMoment}
use Rattle.cal_object.proofs.zone_dates.put_stamps.Given as goal

-- what was put there, and the digits of the stamps to come, are all
abbrev pub invariant-stamps : goal.invariant-stamps
invariant-stamps l = record {
  moments : All HasMoment l.rest;
  all : l.dates ++ map texts.local_digits l.rest ≡ l.fn.dates ++ map texts.local_digits l.stamps;
}

abbrev pub decreases-stamps : goal.decreases-stamps
decreases-stamps l = length l.rest
