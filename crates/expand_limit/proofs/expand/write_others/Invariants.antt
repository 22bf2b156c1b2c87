use Rattle.std.proofs.Common.{◌≡◌, ℕ, suc, List, ◌++◌, length}
use Rattle.std.specs.Prelude.{flat_map}
use Rattle.cal_model.specs.declared.selection.CompPick.{CompPick}
use Rattle.cal_model.specs.Selections.Expansion.{other_components}
use Rattle.ical_objects.specs.Printing.{ArePrintable}
use Rattle.expand_limit.specs.KeptParts.{IsKept}
use Rattle.expand_limit.specs.ShownTexts.{node_text}
use Rattle.expand_limit.proofs.expand.write_others.Given as goal

-- what is written so far stands before the text of what is left, which can be printed
abbrev pub invariant-others : goal.invariant-others
invariant-others l = record {
  some : (levels : ℕ) × ArePrintable levels l.rest;
  fit : (levels : ℕ) → ArePrintable levels l.fn.nodes → ArePrintable levels l.rest;
  text : (levels : ℕ) (picks : List CompPick) → ArePrintable levels l.fn.nodes → IsKept (suc levels) l.around picks
      → l.out ++ flat_map (node_text picks l.options.busy) (other_components l.rest) ≡ l.initial.out ++ flat_map (node_text picks l.options.busy) (other_components l.fn.nodes);
}

abbrev pub decreases-others : goal.decreases-others
decreases-others l = length l.rest
