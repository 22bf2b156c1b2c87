use Rattle.std.proofs.Common.{◌≡◌, take}
use Rattle.filter_eval.proofs.ready.ready_params.Given as goal

-- each so far made ready
abbrev pub invariant-params : goal.invariant-params
invariant-params l = l.ready ≡ take l.param-index l.params
