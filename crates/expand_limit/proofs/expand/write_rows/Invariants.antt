use Rattle.std.proofs.Common.{◌≡◌, ℕ, suc, List, ◌++◌, All, length}
use Rattle.std.specs.Prelude.{flat_map}
use Rattle.cal_model.specs.declared.selection.CompPick.{CompPick}
use Rattle.cal_model.specs.Objects.ComponentLines.{children_of}
use Rattle.ical_objects.specs.Printing.{ArePrintable}
use Rattle.expand_limit.specs.InstanceLines.{IsShownRow}
use Rattle.expand_limit.specs.Instances.{instances_in}
use Rattle.expand_limit.specs.KeptParts.{IsKept}
use Rattle.expand_limit.specs.ShownTexts.{node_text}
use Rattle.expand_limit.proofs.expand.write_rows.Given as goal

-- what is written so far stands before the text of what is left
abbrev pub invariant-rows : goal.invariant-rows
invariant-rows l = record {
  shown : All IsShownRow l.rest;
  text : (levels : ℕ) (picks : List CompPick) → ArePrintable levels (children_of l.expansion.object.now.tree) → IsKept (suc levels) l.around picks
      → l.out ++ flat_map (node_text picks l.expansion.busy) (instances_in l.expansion l.rest) ≡ l.initial.out ++ flat_map (node_text picks l.expansion.busy) (instances_in l.expansion l.fn.rows);
}

abbrev pub decreases-rows : goal.decreases-rows
decreases-rows l = length l.rest
