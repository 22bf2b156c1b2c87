use Rattle.std.proofs.Common.{◌≡◌, subst, arith}
use Rattle.caldav_server.specs.LoadJobs.{OnlySessions}
use Rattle.caldav_server.proofs.LoadJobLemmas.{only-more, only-sessions, worker-more}
use Rattle.caldav_server.proofs.load.fill_jobs.Goals as goal

pub sessions-preserved : goal.sessions-preserved
sessions-preserved g c =
    let added = c.in_ok-add_job.ensures in
    record {
      made = added.made;
      only = only-more c.sessions.session c.sessions.jobs c.add_job.new.jobs c.sessions.invariant.only added.added;
    }

pub workers-init : goal.workers-init
workers-init g c =
    let end : c.sessions.session ≡ c.args.words.sessions = omega (arith, c.sessions-test.false, c.sessions.auto.session-end) in
    record {
      made = c.sessions.invariant.made;
      jobs = only-sessions c.args.words.sessions c.sessions.jobs (subst (λ n. OnlySessions n c.sessions.jobs) end c.sessions.invariant.only);
    }

pub workers-preserved : goal.workers-preserved
workers-preserved g c =
    let added = c.in_ok-add_job-2.ensures in
    record {
      made = added.made;
      jobs = worker-more c.args.words.sessions c.workers.jobs c.add_job-in-workers.new.jobs c.workers.invariant.jobs added.added;
    }
