use Rattle.caldav_server.proofs.SessionPasses.{session-grows}
use Rattle.caldav_server.proofs.sessions.serve_link.Goals as goal

pub returns : goal.returns
returns g c = record { same = c.serve_on-end.ensures.pass; grown = session-grows c.args.context.now.users.now _ c.args.pass.now c.serve_on-end.new.pass _ _ c.serve_on-end.result c.serve_on-end.ensures.session }
