use Rattle.std.proofs.Common.{◌≡◌, ◌≤◌, count_by}
use Rattle.cal_model.specs.Words.Lists.{has_number, numbers_between}
use Rattle.cal_model.proofs.walk.places.numbers_below.Given as goal

-- the numbers so far
abbrev pub invariant-loop-number : goal.invariant-loop-number
invariant-loop-number l = record {
  counted : l.count ≡ count_by (has_number l.part) (numbers_between 0 l.number);
  bound : l.count ≤ l.number;
}
