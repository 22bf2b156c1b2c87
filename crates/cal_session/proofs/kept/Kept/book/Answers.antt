use Rattle.std.proofs.Common.{subst}
use Rattle.cal_session.specs.KeptBooks.{KeptState, IsKeptOf}
use Rattle.cal_session.proofs.kept.Kept.book.Goals as goal

pub returns-clause-kept : goal.returns-clause-kept
returns-clause-kept g c = subst (λ (k : KeptState _). IsKeptOf g.D.Disk.past k.book k.keeper) c.self.view_is c.self.invariant
