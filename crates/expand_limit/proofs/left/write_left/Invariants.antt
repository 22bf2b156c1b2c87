use Rattle.std.proofs.Common.{◌≡◌, ℕ, ◌+◌, suc, List, ◌++◌, length}
use Rattle.std.specs.Prelude.{flat_map}
use Rattle.cal_model.specs.declared.selection.CompPick.{CompPick}
use Rattle.expand_limit.specs.SeenRows.{left_nodes}
use Rattle.ical_objects.specs.Printing.{ArePrintable}
use Rattle.expand_limit.specs.KeptParts.{IsKept}
use Rattle.expand_limit.specs.ShownTexts.{node_text}
use Rattle.expand_limit.proofs.left.write_left.Given as goal

-- what is written so far stands before the text of what is left, which can be printed
abbrev pub invariant-nodes : goal.invariant-nodes
invariant-nodes l = record {
  size : l.place + length l.rest ≡ length l.fn.nodes;
  some : (levels : ℕ) × ArePrintable levels l.rest;
  fit : (levels : ℕ) → ArePrintable levels l.fn.nodes → ArePrintable levels l.rest;
  text : (levels : ℕ) (picks : List CompPick) → ArePrintable levels l.fn.nodes → IsKept (suc levels) l.around picks
      → l.out ++ flat_map (node_text picks l.options.busy) (left_nodes l.gone l.place l.rest) ≡ l.initial.out ++ flat_map (node_text picks l.options.busy) (left_nodes l.gone 0 l.fn.nodes);
}

abbrev pub decreases-nodes : goal.decreases-nodes
decreases-nodes l = length l.rest
