use Rattle.std.proofs.Common.{◌≡◌, ◌≤◌, map}
use Rattle.caldav_server.specs.ThreadPasses.{GoesOn}
use Rattle.caldav_server.proofs.threads.fill_jobs.Given as goal

abbrev pub invariant-sessions : goal.invariant-sessions
invariant-sessions g l = record {
  pass : GoesOn l.context.lock.now l.context.users.now (map (λ job. job.pass) l.jobs.items) l.fn.pass l.pass;
  tries : g.D.Door.tries l.door ≡ g.D.Door.tries l.fn.door;
  faults : g.D.Door.faults l.fn.door ≤ g.D.Door.faults l.door;
}

abbrev pub invariant-workers : goal.invariant-workers
invariant-workers g l = record {
  pass : GoesOn l.context.lock.now l.context.users.now (map (λ job. job.pass) l.jobs.items) l.fn.pass l.pass;
  tries : g.D.Door.tries l.door ≡ g.D.Door.tries l.fn.door;
  faults : g.D.Door.faults l.fn.door ≤ g.D.Door.faults l.door;
}
