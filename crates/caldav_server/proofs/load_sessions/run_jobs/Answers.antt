use denote.Param.Send.{sendable}
use Rattle.std.proofs.Common.{◌≡◌, ◌∙◌, sym, subst}
use Rattle.std.specs.Prelude.{vec_len}
use Rattle.caldav_server.specs.LoadDone.{HasDone}
use Rattle.caldav_server.specs.declared.load_sessions.Done.{Done}
use Rattle.caldav_server.specs.declared.load_sessions.Job.{Job}
use Rattle.caldav_server.proofs.LoadDoneLemmas.{zipped, ok-both}
use Rattle.caldav_server.proofs.LoadMoves.{job_send, done_send, context_sync}
use Rattle.caldav_server.proofs.load_sessions.run_jobs.Goals as goal

pub map_vec-requires-send-J : goal.map_vec-requires-send-J
map_vec-requires-send-J g c κs within = search (sendable, job_send)

pub map_vec-requires-send-X : goal.map_vec-requires-send-X
map_vec-requires-send-X g c κs within = search (sendable, done_send)

pub map_vec-requires-sync-F : goal.map_vec-requires-sync-F
map_vec-requires-sync-F g c κs within = search (sendable, context_sync) depth 8

pub returns : goal.returns
returns g c =
    let users = c.args.context.now.users.now in
    let puts = c.args.context.now.puts in
    ok-both (λ done. vec_len done ≡ vec_len c.args.jobs) _ _ c.map_vec.result (λ done len each. zipped (HasDone users puts) c.args.jobs.items done.items (sym done.ok.0 ∙ len ∙ c.args.jobs.ok.0) (λ k less job one is are.
    let fact = (each k one less).1 in
    subst (λ (s : Job). HasDone users puts s one) (sym (is ∙ fact.job_is job)) (subst (λ (d : Done). HasDone users puts fact.job d) (sym are) fact.call.met)))
    c.map_vec.ensures.len c.map_vec.ensures.each
