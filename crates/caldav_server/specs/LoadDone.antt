-- What the threads of `load` did.
-- Given: the users, how many events each session puts, and what a thread was started with.
use Rattle.std.specs.Prelude.{◌≡◌, ℕ, List, All, length, count_by}
use Rattle.turn_lock.specs.Journals.{entries_by}
use Rattle.cal_base.specs.World.Memory.{LinkState}
use Rattle.cal_model.specs.Load.LoadRequests.{requests_of}
use Rattle.cal_model.specs.Users.UsersFile.{Users}
use Rattle.cal_session.specs.declared.served.How.{How}
use Rattle.cal_session.specs.declared.served.How.TheVariants.{Closed}
use Rattle.cal_session.specs.declared.served.Served.{Served as Turn}
use Rattle.caldav_server.specs.LoadJobs.{Known, author}
use Rattle.caldav_server.specs.LoadSessions.{HasAnswered, was_accepted, HadMemory}
use Rattle.caldav_server.specs.declared.load_sessions.Done.{Done}
use Rattle.caldav_server.specs.declared.load_sessions.Role.{Role}
use Rattle.caldav_server.specs.declared.load_sessions.Role.TheVariants.{Serve, Expand}
use Rattle.caldav_server.specs.declared.load_sessions.Outcome.{Outcome}
use Rattle.caldav_server.specs.declared.load_sessions.Outcome.TheVariants.{Served, Worked, Failed}
use Rattle.caldav_server.specs.declared.load_sessions.Job.{Job}

-- what came of a role: a session answered all that it was asked, a worker entered nothing; or it failed
abbrev pub Did : Users → ℕ → Role → Known → Known → Outcome → Type 0
Did users puts (Serve session) pass now (Served account) = HasAnswered users session (requests_of puts session) pass now account.requests account.accepted account.link.written
Did users puts (Serve session) pass now Worked = ⊥
Did users puts (Serve session) pass now Failed = Unit {0}
Did users puts Expand pass now (Served account) = ⊥
Did users puts Expand pass now Worked = entries_by author pass.number now.seen ≡ entries_by author pass.number pass.seen
Did users puts Expand pass now Failed = ⊥

-- what a thread did with its job
pub record HasDone (users : Users) (puts : ℕ) (job : Job) (done : Done) : Type 0 where
  pub pass : done.pass ≡ record job.pass { seen = done.pass.seen; looks = done.pass.looks }
  pub did : Did users puts job.role job.pass done.pass done.outcome

-- the account of a session whose turns are known
abbrev pub IsAccountOf : How → List Turn → ℕ → LinkState → Outcome → Type 0
IsAccountOf how turns count link (Served account) =
    (how ≡ Closed) × (length turns ≡ count) × All HadMemory turns × (account.requests ≡ length turns) × (account.accepted ≡ count_by was_accepted turns) × (account.link ≡ link)
IsAccountOf how turns count link Worked = ⊥
IsAccountOf how turns count link Failed = Unit {0}
