use Rattle.std.proofs.Common.{ap}
use Rattle.cal_model.specs.History.Claims.{Work}
use Rattle.cal_session.proofs.KeptLaws.{kept_on}
use Rattle.cal_session.proofs.kept.KeptDesk.reserve.Goals as goal

pub invariant_of-self : goal.invariant_of-self
invariant_of-self g c =
    kept_on g.D.Disk.past c.self.inside.book c.reserve.new.self c.self.inside.keeper c.self.invariant c.reserve.ensures.users (ap (λ (w : Work). w.journal) c.reserve.ensures.work)
