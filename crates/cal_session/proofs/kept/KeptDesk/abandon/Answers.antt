use Rattle.std.proofs.Common.{ap}
use Rattle.cal_book.specs.Cores.{Core}
use Rattle.cal_session.proofs.KeptLaws.{kept_on}
use Rattle.cal_session.proofs.kept.KeptDesk.abandon.Goals as goal

pub invariant_of-self : goal.invariant_of-self
invariant_of-self g c =
    kept_on g.D.Disk.past c.self.inside.book c.abandon.new.self c.self.inside.keeper c.self.invariant (ap (λ (core : Core). core.users) c.abandon.ensures) (ap (λ (core : Core). core.work.journal) c.abandon.ensures)
