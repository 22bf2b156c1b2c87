use Rattle.std.proofs.Common.{◌≡◌, ℕ, suc, List, ◌++◌, length}
use Rattle.std.specs.Prelude.{flat_map}
use Rattle.cal_model.specs.declared.selection.CompPick.{CompPick}
use Rattle.ical_objects.specs.Printing.{ArePrintable}
use Rattle.expand_limit.specs.KeptParts.{IsKept}
use Rattle.expand_limit.specs.ShownTexts.{node_text, seen_nodes}
use Rattle.expand_limit.proofs.tree.write_children.Given as goal

-- what is written so far stands before the text of what is left, which can be printed
abbrev pub invariant-children : goal.invariant-children
invariant-children l = record {
  some : (levels : ℕ) × ArePrintable levels l.rest;
  fit : (levels : ℕ) → ArePrintable levels l.fn.nodes → ArePrintable levels l.rest;
  text : (levels : ℕ) (picks : List CompPick) → ArePrintable levels l.fn.nodes → IsKept (suc levels) l.around picks → l.out ++ flat_map (node_text picks l.options.busy) (seen_nodes l.options.plain l.rest) ≡ l.initial.out ++ flat_map (node_text picks l.options.busy) (seen_nodes l.options.plain l.fn.nodes);
}

abbrev pub decreases-children : goal.decreases-children
decreases-children l = length l.rest
