use Rattle.std.proofs.lemmas.Bool.{eqb-true}
use Rattle.rrule_step.proofs.BitLemmas.{has-empty}
use Rattle.rrule_step.proofs.set.Set.is_none.Goals as goal

pub returns : goal.returns
returns c = λ none i. has-empty c.args.self i (eqb-true _ 0 none)
