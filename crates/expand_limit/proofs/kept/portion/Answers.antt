use Rattle.std.proofs.Common.{suc, sym, subst}
use Rattle.expand_limit.specs.KeptParts.{IsKept}
use Rattle.expand_limit.proofs.KeptLemmas.{whole-keeps_all}
use Rattle.expand_limit.proofs.kept.portion.Goals as goal

pub returns-in-None : goal.returns-in-None
returns-in-None c = λ levels picks is. sym (whole-keeps_all c.args.name.now picks (subst (λ kept. IsKept (suc levels) kept picks) c.in-None.is is))
