use Rattle.std.proofs.Common.{◌≡◌, ◌≤◌, count_by}
use Rattle.cal_model.specs.Walks.Places.{has_weekday}
use Rattle.cal_model.specs.Words.Lists.{numbers_between}
use Rattle.cal_model.proofs.walk.places.weekdays_of.Given as goal

-- the numbers so far
abbrev pub invariant-loop-weekday : goal.invariant-loop-weekday
invariant-loop-weekday l = record {
  counted : l.count ≡ count_by (has_weekday l.parts) (numbers_between 0 l.weekday);
  bound : l.count ≤ l.weekday;
}
