use Rattle.std.proofs.Common.{◌≡◌, take}
use Rattle.filter_eval.proofs.ready.ready_lines.Given as goal

-- each so far made ready
abbrev pub invariant-lines : goal.invariant-lines
invariant-lines l = l.ready ≡ take l.line-index l.lines
