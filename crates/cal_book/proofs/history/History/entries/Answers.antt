use Rattle.std.proofs.Common.{subst}
use Rattle.cal_book.specs.Keeping.KeptHistories.{Kept, IsInStep}
use Rattle.cal_book.proofs.history.History.entries.Goals as goal

pub returns-clause-step : goal.returns-clause-step
returns-clause-step c = subst (λ (k : Kept). IsInStep k.users k.store k.journal) c.self.view_is c.self.invariant.step
