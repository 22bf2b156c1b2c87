use Rattle.std.proofs.Common.{ap}
use Rattle.cal_model.specs.History.Claims.{Work}
use Rattle.cal_session.proofs.KeptLaws.{kept_on}
use Rattle.cal_session.proofs.kept.KeptDesk.came_at.Goals as goal

pub invariant_of-self : goal.invariant_of-self
invariant_of-self g c =
    kept_on g.D.Disk.past c.self.inside.book c.came_at.new.self c.self.inside.keeper c.self.invariant c.came_at.ensures.users (ap (λ (w : Work). w.journal) c.came_at.ensures.work)
