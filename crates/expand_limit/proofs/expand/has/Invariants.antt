use Rattle.std.proofs.Common.{◌≡◌, length}
use Rattle.cal_model.specs.Objects.ComponentLines.{has}
use Rattle.cal_model.specs.Selections.Expansion.{plain_lines}
use Rattle.expand_limit.proofs.expand.has.Given as goal

-- only what is left can tell
abbrev pub invariant-lines : goal.invariant-lines
invariant-lines l = has l.name (plain_lines l.rest) ≡ has l.name (plain_lines l.fn.lines)

abbrev pub decreases-lines : goal.decreases-lines
decreases-lines l = length l.rest
