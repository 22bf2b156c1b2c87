use Rattle.std.proofs.Common.{ap}
use Rattle.cal_model.specs.History.Claims.{Work}
use Rattle.cal_session.proofs.turn.tell_moment.Goals as goal

pub returns-clause-journal : goal.returns-clause-journal
returns-clause-journal g c = ap (λ (w : Work). w.journal) c.came_at.ensures.work
