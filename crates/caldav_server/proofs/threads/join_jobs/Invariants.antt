use Rattle.std.proofs.Common.{map, length}
use Rattle.caldav_server.specs.ThreadPasses.{GoesOn}
use Rattle.caldav_server.proofs.threads.join_jobs.Given as goal

abbrev pub invariant-joining : goal.invariant-joining
invariant-joining g l = GoesOn l.context.lock.now l.context.users.now (map (λ job. job.pass) l.rest) l.fn.pass l.pass

abbrev pub decreases-joining : goal.decreases-joining
decreases-joining g l = length l.rest
