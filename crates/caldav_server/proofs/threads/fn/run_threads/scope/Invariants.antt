use Rattle.std.proofs.Common.{◌≤◌, ◌++◌, map, length}
use Rattle.caldav_server.specs.ThreadPasses.{GoesOn}
use Rattle.caldav_server.proofs.threads.fn.run_threads.scope.Given as goal

abbrev pub invariant-starting : goal.invariant-starting
invariant-starting g l = record {
  pass : GoesOn l.context.lock.now l.context.users.now (map (λ thread. thread.promise.pass.value) l.threads.items ++ map (λ job. job.pass) l.rest) l.initial.all.pass l.all.pass;
  room : length l.rest ≤ l.threads.room;
}

abbrev pub decreases-starting : goal.decreases-starting
decreases-starting g l = length l.rest
