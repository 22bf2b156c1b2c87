use Rattle.std.proofs.Common.{refl, ap}
use Rattle.cal_base.specs.Lists.Reserved.{Reserved}
use Rattle.caldav_server.proofs.ThreadPasses.{goes_on_split}
use Rattle.caldav_server.proofs.threads.add_job.Goals as goal

pub returns-clause-pass : goal.returns-clause-pass
returns-clause-pass g c =
    goes_on_split c.args.context.now.lock.now c.args.context.now.users.now c.args.jobs.now.items c.reserve.new.self.items c.push.new.self.items _ (λ job. job.pass) c.args.pass.now c.split.new.pass c.in-Ok-split.pass c.split.new.pass.seen _
    (ap (λ (jobs : Reserved _). jobs.items) c.push.ensures) c.reserve.ensures.items refl c.requires (c.split.ensures.longer.0, c.split.ensures.longer.1) c.in-Ok-split.ensures.ok c.in-Ok-split.ensures.new
