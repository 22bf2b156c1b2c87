use Rattle.std.proofs.Common.{◌≡◌, ◌+◌, length}
use Rattle.std.specs.Vec.Iter.{into_iter_items}
use Rattle.cal_base.specs.Lines.ComponentTrees.{nesting_fault, tree_of}
use Rattle.cal_base.specs.Lines.Nesting.{fault_from}
use Rattle.ical_objects.specs.Building.{IsBehind, openings, tree_with}
use Rattle.ical_objects.proofs.from_lines.build.Given as goal

-- the fault and the tree of all lines are those of the lines to come, with what is kept
abbrev pub invariant-lines : goal.invariant-lines
invariant-lines l = record {
  can_next : (goal.iterator-lines).can_next l.line-iterator;
  is_finite : (goal.iterator-lines).is_finite l.line-iterator;
  number : l.number + length (into_iter_items l.line-iterator) ≡ length l.fn.lines;
  behind : IsBehind l.number l.progress;
  fault : nesting_fault l.fn.lines ≡ fault_from l.number (openings l.progress) (into_iter_items l.line-iterator);
  tree : tree_of l.fn.lines ≡ tree_with l.progress (into_iter_items l.line-iterator);
}
