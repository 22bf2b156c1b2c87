-- One more job is made.
use Rattle.std.proofs.Common.{◌≡◌, ℕ, ◌+◌, List, [], ◌∷◌, ◌++◌, length, sym, ap, ◌∙◌, subst, arith, append_assoc, length-append}
use Rattle.std.proofs.lemmas.List.{append-nil}
use Rattle.std.specs.List.{AllByRecursion}
use Rattle.caldav_server.specs.LoadJobs.{IsOneMore, ServeFrom, OnlySessions, AreJobs}
use Rattle.caldav_server.specs.declared.load_sessions.Role.TheVariants.{Serve, Expand}
use Rattle.caldav_server.specs.declared.load_sessions.Job.{Job}

all-snoc : {X : Type 0} (P : X → Type 0) (xs : List X) (x : X) → AllByRecursion P xs → P x → AllByRecursion P (xs ++ x ∷ [])
all-snoc P [] x all here = (here, tt)
all-snoc P (y ∷ ys) x all here = (all.0, all-snoc P ys x all.1 here)

-- the jobs of sessions in order
serve-snoc : (session : ℕ) (jobs : List Job) (job : Job) → ServeFrom session jobs → job.role ≡ Serve (session + length jobs) → ServeFrom session (jobs ++ job ∷ [])
serve-snoc session [] job serve role = (role ∙ ap Serve (omega arith), tt)
serve-snoc session (first ∷ jobs) job serve role = (serve.0, serve-snoc (session + 1) jobs job serve.1 (role ∙ ap Serve (omega arith)))

-- one more job of a session, in order
pub only-more : (sessions : ℕ) (old new : List Job) → OnlySessions sessions old → IsOneMore (Serve sessions) old new → OnlySessions (sessions + 1) new
only-more sessions old new before more =
    let here : sessions ≡ 0 + length old = omega (arith, before.many) in
    record {
      many = ap length more.1 ∙ length-append old (more.0 ∷ []) ∙ ap (λ n. n + 1) before.many;
      serve = subst (ServeFrom 0) (sym more.1) (serve-snoc 0 old more.0 before.serve (more.2 ∙ ap Serve here));
    }

pub only-sessions : (sessions : ℕ) (jobs : List Job) → OnlySessions sessions jobs → AreJobs sessions jobs
only-sessions sessions jobs are = record { serving = jobs; expanding = []; jobs_are = sym (append-nil jobs); many = are.many; serve = are.serve; expand = tt }

-- one more worker
pub worker-more : (sessions : ℕ) (old new : List Job) → AreJobs sessions old → IsOneMore Expand old new → AreJobs sessions new
worker-more sessions old new before more = record {
  serving = before.serving;
  expanding = before.expanding ++ more.0 ∷ [];
  jobs_are = more.1 ∙ ap (λ jobs. jobs ++ more.0 ∷ []) before.jobs_are ∙ append_assoc before.serving before.expanding (more.0 ∷ []);
  many = before.many;
  serve = before.serve;
  expand = all-snoc (λ (job : Job). job.role ≡ Expand) before.expanding more.0 before.expand more.2;
}
