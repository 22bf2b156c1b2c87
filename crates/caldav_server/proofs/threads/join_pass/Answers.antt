use Rattle.caldav_server.proofs.ThreadPasses.{awaits_less}
use Rattle.caldav_server.proofs.threads.join_pass.Goals as goal

pub returns : goal.returns
returns g c = λ before behind was turned awaits. record {
  awaits = awaits_less c.args.context.now.lock.now c.args.context.now.users.now before behind was c.args.other c.args.pass.now c.join.new.pass _ awaits turned c.join.ensures.pass;
  grown = (c.join.ensures.own.0, c.join.ensures.own.1);
}
