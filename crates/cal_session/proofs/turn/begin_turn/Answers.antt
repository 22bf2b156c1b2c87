use Rattle.std.proofs.Common.{ap, ◌∙◌}
use Rattle.cal_model.specs.History.Claims.{Work}
use Rattle.cal_session.proofs.turn.begin_turn.Goals as goal

pub returns-clause-users : goal.returns-clause-users
returns-clause-users g c = c.reserve.ensures.users ∙ c.tell_moment.ensures.users

pub returns-clause-journal : goal.returns-clause-journal
returns-clause-journal g c = ap (λ (w : Work). w.journal) c.reserve.ensures.work ∙ c.tell_moment.ensures.journal
