use denote.Param.Send.{sendable}
use Rattle.std.proofs.Common.{rules, length, map, ap, ◌∙◌, subst, arith}
use Rattle.cal_base.specs.Lists.Reserved.{Reserved}
use Rattle.caldav_server.specs.ThreadPasses.{HasTakenTurns}
use Rattle.caldav_server.specs.LoadJobs.{Known}
use Rattle.caldav_server.specs.declared.threads.Lent.{Lent}
use Rattle.caldav_server.proofs.ThreadPasses.{turns_none, goes_on_taken, goes_on_started, spare_taken, awaits_started}
use Rattle.caldav_server.proofs.threads.fn.run_threads.scope.Goals as goal

pub starting-preserved-in-Ok : goal.starting-preserved-in-Ok
starting-preserved-in-Ok g c = record {
  pass = goes_on_started c.captures.context.now.lock.now c.captures.context.now.users.now c.starting.rest c.pop_front.new.self c.in-Some.job (λ job. job.pass) c.starting.threads.items c.push.new.self.items c.in-Ok.thread
      (λ thread. thread.promise.pass.value) _ c.starting.all.pass c.in-Some.ensures (ap (λ (threads : Reserved _). threads.items) c.push.ensures)
      (ap (λ (lent : Lent g.row.B.Denot g.row.B-Fault.Denot). lent.pass.value) c.in-Ok.ensures.ok ∙ c.of.ensures) c.starting.invariant.pass;
  room = let rest = ap length c.in-Some.ensures in let room = ap (λ (threads : Reserved _). threads.room) c.push.ensures in let before = c.starting.invariant.room in omega (arith, rest, room, before);
}

pub spawn_with-requires-clause-runs : goal.spawn_with-requires-clause-runs
spawn_with-requires-clause-runs g c κs within =
    let spare = spare_taken c.captures.context.now.lock.now c.captures.context.now.users.now (map (λ thread. thread.promise.pass.value) c.starting.threads.items) c.starting.rest c.pop_front.new.self c.in-Some.job (λ job. job.pass) _ c.starting.all.pass c.in-Some.job.pass
    c.in-Some.ensures c.starting.invariant.pass (turns_none c.in-Some.job.pass) in
    (spare.ready, search sendable)

pub work-requires-after_bounds : goal.work-requires-after_bounds
work-requires-after_bounds g c κs within =
    let spare = spare_taken c.captures.context.now.lock.now c.captures.context.now.users.now (map (λ thread. thread.promise.pass.value) c.starting.threads.items) c.starting.rest c.pop_front.new.self c.in-Some.job (λ job. job.pass) _ c.starting.all.pass c.in-Some.job.pass
    c.in-Some.ensures c.starting.invariant.pass (turns_none c.in-Some.job.pass) in
    let ready = spare.ready in
    let same = c.in-Err.ensures.err in
    search rules

pub take_back-requires-clause-back : goal.take_back-requires-clause-back
take_back-requires-clause-back g c κs within =
    let turned = subst (λ (pass : Known). HasTakenTurns pass c.work.result.pass) (ap (λ work. work.2.pass) c.in-Err.ensures.err) c.work.ensures in
    spare_taken c.captures.context.now.lock.now c.captures.context.now.users.now (map (λ thread. thread.promise.pass.value) c.starting.threads.items) c.starting.rest c.pop_front.new.self c.in-Some.job (λ job. job.pass) _ c.starting.all.pass c.work.result.pass
    c.in-Some.ensures c.starting.invariant.pass turned

pub starting-preserved : goal.starting-preserved
starting-preserved g c =
    let turned = subst (λ (pass : Known). HasTakenTurns pass c.work.result.pass) (ap (λ work. work.2.pass) c.in-Err.ensures.err) c.work.ensures in
    record {
      pass = goes_on_taken c.captures.context.now.lock.now c.captures.context.now.users.now (map (λ thread. thread.promise.pass.value) c.starting.threads.items) c.starting.rest c.pop_front.new.self c.in-Some.job (λ job. job.pass) _ c.starting.all.pass
          c.take_back.new.all.pass c.work.result.pass c.in-Some.ensures c.starting.invariant.pass turned c.take_back.ensures.pass;
      room = let rest = ap length c.in-Some.ensures in let before = c.starting.invariant.room in omega (arith, rest, before);
    }

pub join_threads-requires-after_bounds : goal.join_threads-requires-after_bounds
join_threads-requires-after_bounds g c κs within =
    awaits_started c.captures.context.now.lock.now c.captures.context.now.users.now c.starting.rest (λ job. job.pass) c.starting.threads.items c.into_list.result (λ thread. thread.promise.pass.value) _ c.starting.all.pass c.serve_first.new.all.pass
    c.in_default.ensures.0 c.into_list.ensures c.starting.invariant.pass c.serve_first.ensures.pass
