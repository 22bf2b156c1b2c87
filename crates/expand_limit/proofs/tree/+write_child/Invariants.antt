use Rattle.std.proofs.Common.{◌≡◌, ℕ, suc, List, ◌++◌, take, drop}
use Rattle.std.specs.Prelude.{flat_map}
use Rattle.cal_model.specs.declared.selection.CompPick.{CompPick}
use Rattle.ical_objects.specs.Printing.{ArePrintable}
use Rattle.expand_limit.specs.KeptParts.{IsKept}
use Rattle.expand_limit.specs.ShownTexts.{node_text, seen_nodes}
use Rattle.expand_limit.proofs.tree.+write_child.Given as goal

-- the components so far are written, and the others can be printed
abbrev pub invariant-children : goal.invariant-children
invariant-children l = record {
  some : (levels : ℕ) × ArePrintable levels (drop l.child-index l.child-items);
  fit : (levels : ℕ) → ArePrintable levels l.child-items → ArePrintable levels (drop l.child-index l.child-items);
  text : (levels : ℕ) (picks : List CompPick) → ArePrintable levels l.child-items → IsKept (suc levels) l.kept picks → l.out ≡ l.initial.out ++ flat_map (node_text picks l.options.busy) (seen_nodes l.options.plain (take l.child-index l.child-items));
}

abbrev pub decreases-write_child : goal.decreases-write_child
decreases-write_child l = goal.size-write_child l
