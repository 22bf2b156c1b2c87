use Rattle.std.proofs.Common.{◌≡◌, ◌++◌, ◌+◌, ◌≤◌, length}
use Rattle.cal_object.specs.Scan.{child_numbers}
use Rattle.cal_object.specs.Children as spec
use Rattle.cal_object.proofs.scan.child_begins.Given as goal

-- the numbers so far, and those of the lines to come, are all
abbrev pub invariant-lines : goal.invariant-lines
invariant-lines l = record {
  number : l.number + length l.rest ≡ length l.lines;
  few_begins : l.begins ≤ l.number;
  few_ends : l.ends ≤ l.number;
  all : l.children ++ spec.children_from l.number l.begins l.ends l.rest ≡ child_numbers l.lines;
}

abbrev pub decreases-lines : goal.decreases-lines
decreases-lines l = length l.rest
