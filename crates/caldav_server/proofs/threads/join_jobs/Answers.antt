use Rattle.std.proofs.Common.{[]}
use Rattle.caldav_server.proofs.ThreadPasses.{turns_none, goes_on_taken}
use Rattle.caldav_server.proofs.threads.join_jobs.Goals as goal

pub joining-preserved : goal.joining-preserved
joining-preserved g c =
    goes_on_taken c.args.context.now.lock.now c.args.context.now.users.now [] c.joining.rest c.pop_front.new.self c.in-Some.job (λ job. job.pass) c.args.pass.now c.joining.pass c.join_pass.new.pass c.in-Some.job.pass
    c.in-Some.ensures c.joining.invariant (turns_none c.in-Some.job.pass) c.join_pass.ensures
