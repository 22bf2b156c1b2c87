use Rattle.std.proofs.Common.{map, length}
use Rattle.std.specs.Prelude.{IsOk, OnOk}
use Rattle.caldav_server.specs.ThreadPasses.{GoesOn}
use Rattle.caldav_server.proofs.threads.join_threads.Given as goal

abbrev pub invariant-joining : goal.invariant-joining
invariant-joining g l = record {
  pass : GoesOn l.context.lock.now l.context.users.now (map (λ thread. thread.promise.pass.value) l.rest) l.fn.all.pass l.all.pass;
  end : OnOk l.all.end (IsOk l.fn.all.end);
}

abbrev pub decreases-joining : goal.decreases-joining
decreases-joining g l = length l.rest
