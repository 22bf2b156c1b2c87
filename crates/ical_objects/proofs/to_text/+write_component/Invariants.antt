use Rattle.std.proofs.Common.{◌≡◌, ◌++◌, take, map, ℕ, drop}
use Rattle.std.specs.List.{concat}
use Rattle.cal_base.specs.Lines.ComponentTrees.{printed}
use Rattle.ical_objects.specs.Printing.{AddsLines, ArePrintable}
use Rattle.ical_objects.proofs.PrintedTrees.{lines_of_trees}
use Rattle.ical_objects.proofs.to_text.+write_component.Given as goal

-- the components so far are written, and their lines are read again; the others can be printed
abbrev pub invariant-children : goal.invariant-children
invariant-children l = record {
  text : l.out ≡ l.initial.out ++ concat (map printed (take l.child-index l.child-items));
  lines : AddsLines l.initial.out (lines_of_trees (take l.child-index l.child-items)) l.out;
  fit : (levels : ℕ) × ArePrintable levels (drop l.child-index l.child-items);
}

abbrev pub decreases-write_component : goal.decreases-write_component
decreases-write_component l = goal.size-write_component l
