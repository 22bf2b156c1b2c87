use Rattle.std.proofs.Common.{◌≡◌, take}
use Rattle.filter_eval.proofs.ready.ready_texts.Given as goal

-- each so far made ready
abbrev pub invariant-values : goal.invariant-values
invariant-values l = l.ready ≡ take l.value-index l.values
