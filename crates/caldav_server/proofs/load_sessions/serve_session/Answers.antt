use Rattle.std.proofs.Common.{refl, ap, Some}
use Rattle.cal_base.specs.World.Memory.{LinkState}
use Rattle.caldav_server.proofs.LoadEndings.{done-session}
use Rattle.caldav_server.proofs.load_sessions.serve_session.Goals as goal

pub returns-in-Ok-clause-did : goal.returns-in-Ok-clause-did
returns-in-Ok-clause-did g c =
    let served = c.serve_connection-ended in
    done-session (record { users = c.args.context.now.users.now; clock = _ }) c.args.context.now.puts c.args.session c.in-Ok.octets c.in-Ok.count (record { pass = c.args.pass.now; link = _ }) (record { pass = served.new.pass; link = _ }) served.result served.new.link c.account_of.result
    served.ensures.session (ap (λ (l : LinkState). Some l.supply.rest) c.new-link.ensures) (ap (λ (l : LinkState). Some l.written) c.new-link.ensures) refl (ap (λ moment. Some moment) c.new-clock.ensures)
    c.in-Ok.ensures.spelled c.in-Ok.ensures.count c.requires.few served.ensures.legal c.account_of.ensures
