use Rattle.std.proofs.Common.{◌≡◌, ℕ, suc, List, ◌++◌, length}
use Rattle.std.specs.Prelude.{flat_map}
use Rattle.std.specs.List.{AllByRecursion}
use Rattle.cal_model.specs.declared.selection.CompPick.{CompPick}
use Rattle.cal_model.specs.Selections.Expansion.{plain_lines}
use Rattle.ical_objects.specs.Printing.{IsOwnLine}
use Rattle.expand_limit.specs.InstanceLines.{instance_line_by}
use Rattle.expand_limit.specs.KeptParts.{IsKept}
use Rattle.expand_limit.specs.ShownTexts.{line_text}
use Rattle.expand_limit.proofs.instance.write_instance_lines.Given as goal

-- what is written so far stands before the text of what is left
abbrev pub invariant-lines : goal.invariant-lines
invariant-lines l = record {
  own : AllByRecursion IsOwnLine l.rest;
  text : (levels : ℕ) (picks : List CompPick) → IsKept (suc levels) l.kept picks
      → l.out ++ flat_map (line_text picks l.busy) (flat_map (instance_line_by l.instance) (plain_lines l.rest)) ≡ l.initial.out ++ flat_map (line_text picks l.busy) (flat_map (instance_line_by l.instance) (plain_lines l.fn.lines));
}

abbrev pub decreases-lines : goal.decreases-lines
decreases-lines l = length l.rest
