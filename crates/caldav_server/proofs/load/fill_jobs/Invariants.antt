use Rattle.caldav_server.specs.LoadJobs.{JobsMade, OnlySessions, AreJobs}
use Rattle.caldav_server.proofs.load.fill_jobs.Given as goal

abbrev pub invariant-sessions : goal.invariant-sessions
invariant-sessions g l = record {
  made : JobsMade l.context.service.now l.context.users.now l.pass l.jobs;
  only : OnlySessions l.session l.jobs;
}

abbrev pub invariant-workers : goal.invariant-workers
invariant-workers g l = record {
  made : JobsMade l.context.service.now l.context.users.now l.pass l.jobs;
  jobs : AreJobs l.fn.words.sessions l.jobs;
}
