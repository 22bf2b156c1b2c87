use Rattle.cases_server.proofs.SlotLemmas.{grows}
use Rattle.cases_server.proofs.walk.answer.Goals as goal

pub returns-in-Request-clause-grows : goal.returns-in-Request-clause-grows
returns-in-Request-clause-grows g c = grows _ _ c.args.book.now.work c.request.new.self.work c.request.result.status c.request.ensures.work (λ e. (c.request.ensures.busy e).1)
