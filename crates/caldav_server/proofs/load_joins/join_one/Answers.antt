use Rattle.std.proofs.Common.{ap}
use Rattle.caldav_server.specs.LoadJobs.{Known}
use Rattle.caldav_server.proofs.LoadPasses.{joined-more}
use Rattle.caldav_server.proofs.load_joins.join_one.Goals as goal

pub returns-clause-joined : goal.returns-clause-joined
returns-clause-joined c = λ start before joined.
    let pass = c.join.ensures.pass in
    joined-more start c.args.pass.now c.join.new.pass c.args.done.pass before joined c.requires.back.2
    (ap (λ (p : Known). p.number) pass) (ap (λ (p : Known). p.kin) pass) (ap (λ (p : Known). p.gone) pass)
    c.join.ensures.own c.join.ensures.others c.join.ensures.mine c.join.ensures.theirs c.join.ensures.whole
