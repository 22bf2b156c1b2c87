use Rattle.std.proofs.Common.{◌≡◌, ◌≤◌, count_by}
use Rattle.cal_model.specs.Words.Lists.{numbers_between}
use Rattle.rrule_step.specs.Sets.{has}
use Rattle.rrule_step.proofs.counts.count_below.Given as goal

-- the numbers so far
abbrev pub invariant-loop-number : goal.invariant-loop-number
invariant-loop-number l = record {
  counted : l.count ≡ count_by (has l.set) (numbers_between 0 l.number);
  bound : l.count ≤ l.number;
}
