use Rattle.std.proofs.Common.{[]}
use Rattle.caldav_server.proofs.ThreadPasses.{ok_since, goes_on_taken}
use Rattle.caldav_server.proofs.threads.join_threads.Goals as goal

pub joining-preserved : goal.joining-preserved
joining-preserved g c = record {
  pass = goes_on_taken c.args.context.now.lock.now c.args.context.now.users.now [] c.joining.rest c.pop_front.new.self c.in-Some.thread (λ thread. thread.promise.pass.value) c.args.all.now.pass c.joining.all.pass
      c.take_back.new.all.pass c.join.result.pass c.in-Some.ensures c.joining.invariant.pass c.join.ensures c.take_back.ensures.pass;
  end = ok_since c.args.all.now.end c.joining.all.end c.take_back.new.all.end c.joining.invariant.end c.take_back.ensures.end;
}
