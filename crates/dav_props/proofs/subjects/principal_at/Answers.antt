use Rattle.dav_props.proofs.SeenLemmas.{group_seen, principal_seen}
use Rattle.dav_props.proofs.subjects.principal_at.Goals as goal

pub returns-in-Some : goal.returns-in-Some
returns-in-Some g c =
    group_seen (g.V.View.directory c.args.seen.now.view.now) (g.V.View.state c.args.seen.now.view.now) c.args.seen.now.who c.args.name c.in-Some.group c.in-Some.ensures.number

pub returns-in-None : goal.returns-in-None
returns-in-None g c =
    principal_seen (g.V.View.directory c.args.seen.now.view.now) (g.V.View.state c.args.seen.now.view.now) c.args.seen.now.who c.args.name c.find_user.result c.in-None.ensures.number c.find_user.ensures.number
