-- The jobs of the threads of `load`, each with a pass of its own, and the passes once they are joined into one again.
-- Given: the pass before and after, and the passes that were split off it, or joined into it.
use Rattle.std.specs.Prelude.{◌≡◌, ◌≢◌, ℕ, ◌+◌, ◌<◌, List, [], ◌∷◌, ◌++◌, map, length, Some, false}
use Rattle.atomic_table.specs.Seated.{TableId}
use Rattle.std.specs.List.{AllByRecursion}
use Rattle.turn_lock.specs.Journals.{entries_by, KeepsEntriesOf}
use Rattle.turn_lock.specs.Numbers.{Has}
use Rattle.turn_lock.specs.Passes.{PassState, IsWhole}
use Rattle.cal_model.specs.History.Journal.{Entry}
use Rattle.caldav_server.specs.Shares.{IsPassFor}
use Rattle.caldav_server.specs.declared.load_sessions.Role.{Role}
use Rattle.caldav_server.specs.declared.load_sessions.Role.TheVariants.{Serve, Expand}
use Rattle.caldav_server.specs.declared.load_sessions.Job.{Job}
use Rattle.cal_model.specs.Users.UsersFile.{Users}

abbrev pub Known : Type 0
Known = PassState Entry Users

abbrev pub author : Entry → ℕ
author entry = entry.session

-- what one pass has seen is a beginning of what another has, which has of its number the same entries
pub record IsWithin (other pass : Known) : Type 0 where
  pub begins : (rest : List Entry) × (pass.seen ≡ other.seen ++ rest)
  pub same : entries_by author other.number pass.seen ≡ entries_by author other.number other.seen

abbrev pub numbers : List Known → List ℕ
numbers passes = map (λ (pass : Known). pass.number) passes

-- a pass that split none off, and into which none was joined
abbrev pub IsLeaf : Known → Type 0
IsLeaf pass = (pass.kin ≡ []) × (pass.gone ≡ [])

pub record HasJoined (old new : Known) (others : List Known) : Type 0 where
  pub number_is : new.number ≡ old.number
  pub kin_is : new.kin ≡ old.kin
  pub gone_is : new.gone ≡ old.gone ++ numbers others
  pub each : AllByRecursion (λ other. IsWithin other new) others
  pub own : KeepsEntriesOf author (old.number ∷ old.gone) old.seen new.seen
  pub whole : others ≢ [] → IsWhole new → AllByRecursion (λ entry. Has (new.number ∷ new.gone) (author entry)) new.seen

-- Jobs

abbrev pub IsNumber : Role → Type 0
IsNumber (Serve session) = session < 100
IsNumber Expand = Unit {0}

-- a pass that was split off and has entered nothing, and a role
pub record IsJob (lock : TableId) (users : Users) (job : Job) : Type 0 where
  pub pass : IsPassFor lock users job.pass
  pub leaf : IsLeaf job.pass
  pub fresh : entries_by author job.pass.number job.pass.seen ≡ []
  pub number : IsNumber job.role

abbrev pub passes_at : List Job → List Known
passes_at jobs = map (λ (job : Job). job.pass) jobs

-- the first pass of a lock
abbrev pub first_pass : TableId → Users → Known
first_pass lock users = record { lock = lock; number = 0; base = Some users; seen = []; looks = []; kin = []; gone = []; holds_turn = false }

-- jobs were made of a first pass, and it entered nothing
pub record JobsMade (lock : TableId) (users : Users) (pass : Known) (jobs : List Job) : Type 0 where
  pub pass_is : pass ≡ record (first_pass lock users) { seen = pass.seen; looks = pass.looks; kin = numbers (passes_at jobs) }
  pub nothing : entries_by author 0 pass.seen ≡ []
  pub each : AllByRecursion (IsJob lock users) jobs

-- the roles are those of sessions from this number on
abbrev pub ServeFrom : ℕ → List Job → Type 0
ServeFrom session [] = Unit {0}
ServeFrom session (job ∷ jobs) = (job.role ≡ Serve session) × ServeFrom (session + 1) jobs

-- the jobs of so many sessions, in order
pub record OnlySessions (sessions : ℕ) (jobs : List Job) : Type 0 where
  pub many : length jobs ≡ sessions
  pub serve : ServeFrom 0 jobs

-- the jobs of so many sessions, and behind these those of workers
pub record AreJobs (sessions : ℕ) (jobs : List Job) : Type 0 where
  pub serving : List Job
  pub expanding : List Job
  pub jobs_are : jobs ≡ serving ++ expanding
  pub many : length serving ≡ sessions
  pub serve : ServeFrom 0 serving
  pub expand : AllByRecursion (λ (job : Job). job.role ≡ Expand) expanding

-- one more job, with this role
abbrev pub IsOneMore : Role → List Job → List Job → Type 0
IsOneMore role old new = (job : Job) × (new ≡ old ++ job ∷ []) × (job.role ≡ role)
