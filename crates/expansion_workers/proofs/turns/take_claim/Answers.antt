use Rattle.std.proofs.Common.{ap, ◌∙◌}
use Rattle.turn_lock.specs.Passes.{PassState}
use Rattle.cal_model.specs.History.Claims.{Work}
use Rattle.cal_model.specs.History.Journal.{Entry}
use Rattle.cal_model.specs.Users.UsersFile.{Users}
use Rattle.expansion_workers.proofs.WorkLemmas.{live_of}
use Rattle.expansion_workers.proofs.turns.take_claim.Goals as goal

pub returns-in-Ok-clause-live : goal.returns-in-Ok-clause-live
returns-in-Ok-clause-live g c =
    let value = c.take-value.result.value in
    let seen = ap (λ (p : PassState Entry Users). p.seen) c.give.ensures.pass in
    let same = seen ∙ (g.met.B.Desk.journals c.claim-claim.new.self ∙ ap (λ (w : Work). w.journal) c.in-Ok.ensures.work) in
    live_of (g.B.Desk.book value).work c.give.new.pass.seen c.in-Ok.claim c.in-Ok.ensures.pair same
