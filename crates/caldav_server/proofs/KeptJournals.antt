-- What a kept book has of its file, and what it was found with.
use Rattle.std.proofs.Common.{◌≡◌, ◌∙◌, ℕ, List, [], ◌++◌, Bool, true, false, sym, subst, inl, inr}
use Rattle.std.specs.Prelude.{Option, Some, None, IfSome, Result, ◌⊎◌, map}
use Rattle.std.proofs.lemmas.List.{append-nil}
use Rattle.cal_base.specs.World.Outside.{Rose}
use Rattle.cal_model.specs.History.Journal.{Entry, IsLegal}
use Rattle.cal_model.specs.State.ServerState.{directory_of}
use Rattle.cal_model.specs.Users.UsersFile.{Users}
use Rattle.cal_keeper.specs.Disks.CrashModel.{Past, reading}
use Rattle.cal_keeper.specs.Files.Standing.{recorded, StandsFor, IsKeptFor}
use Rattle.cal_book.specs.Cores.{state_in}
use Rattle.cal_book.specs.EventSteps.{state_behind}
use Rattle.cal_session.specs.KeptBooks.{KeptState, IsKeptOf, LeavesAllOrButLast}
use Rattle.cal_session.specs.Loading.{HasTaken, IsReady}
use Rattle.cal_script.specs.EnteredRequests.{IsEnteredBy}
use Rattle.cal_script.specs.ScriptEnds.{HasEndedOn, IsLeft, RunTold}
use Rattle.cal_script.specs.declared.running.FramesOn.{FramesOn}
use Rattle.cal_script.specs.declared.running.FramesOn.TheVariants.{End, Broken}
use Rattle.caldav_server.specs.KeptRuns.{StoodFor, IsKeptWith, IsAnswered, IfBroken}
use Rattle.caldav_server.specs.KeptServers.{LeavesJournal, LeavesMore, ServedFrom, served_status}
use Rattle.caldav_server.specs.declared.threads.NotServed.{NotServed}
use Rattle.caldav_server.proofs.KeptServing.{broken_at_eight, unbroken_else}

if_some : {A : Type 0} (P Q : A → Type 0) (told : Option A) → ((a : A) → P a → Q a) → IfSome told P → IfSome told Q
if_some P Q None more h = tt
if_some P Q (Some a) more h = more a h

-- what it was found with

stood : (users : Users) (journal : List Entry) (now : Option Past) (past : Past) → HasTaken users journal now past → ((reading past ≡ []) × (journal ≡ [])) ⊎ StandsFor users journal (reading past)
stood users journal now past (inl none) = inl none
stood users journal now past (inr stands) = inr stands.0

pub stood_for : {D : Type 0} (past : D → Option Past) (users : Users) (disk : D) (kept : KeptState D) → IsReady past users disk kept → StoodFor users kept.book.work.journal (past disk)
stood_for past users disk kept ready = record {
  legal = ready.legal;
  sessions = ready.sessions;
  file = if_some (HasTaken users kept.book.work.journal (past kept.keeper.disk)) (λ p. ((reading p ≡ []) × (kept.book.work.journal ≡ [])) ⊎ StandsFor users kept.book.work.journal (reading p)) (past disk)
      (stood users kept.book.work.journal (past kept.keeper.disk)) ready.stands;
}

-- what it has

-- a file that is kept for the book's own users is kept for these
of_users : {D : Type 0} (past : D → Option Past) (users : Users) (kept : KeptState D) → kept.book.users ≡ users
    → IfSome (past kept.keeper.disk) (IsKeptFor kept.book.users (map recorded kept.book.work.journal) kept.keeper.place) → IsKeptWith users kept.book.work.journal (past kept.keeper.disk)
of_users past users kept e h =
    if_some (IsKeptFor kept.book.users (map recorded kept.book.work.journal) kept.keeper.place) (λ p. (place : ℕ) × IsKeptFor users (map recorded kept.book.work.journal) place p) (past kept.keeper.disk)
    (λ p is. (kept.keeper.place, subst (λ (known : Users). IsKeptFor known (map recorded kept.book.work.journal) kept.keeper.place p) e is)) h

pub kept_with : {D : Type 0} (past : D → Option Past) (users : Users) (kept : KeptState D) → kept.book.users ≡ users → IsKeptOf past kept.book kept.keeper → kept.keeper.broken ≡ false
    → IsKeptWith users kept.book.work.journal (past kept.keeper.disk)
kept_with past users kept e h unbroken = of_users past users kept e (h.file unbroken)

pub crash_leaves : {D : Type 0} (past : D → Option Past) (users : Users) (kept : KeptState D) → kept.book.users ≡ users → IsKeptOf past kept.book kept.keeper → kept.keeper.broken ≡ true
    → IfSome (past kept.keeper.disk) (LeavesAllOrButLast users kept.book.work.journal)
crash_leaves past users kept e h broken = subst (λ (known : Users). IfSome (past kept.keeper.disk) (LeavesAllOrButLast known kept.book.work.journal)) e (h.left broken)

pub leaves : {D T : Type 0} (past : D → Option Past) (users : Users) (kept : KeptState D) (served : Result T NotServed) → kept.book.users ≡ users → IsKeptOf past kept.book kept.keeper → IsLegal (directory_of users) kept.book.work.journal
    → LeavesJournal users kept.book.work.journal (served_status kept.keeper.broken served) (past kept.keeper.disk)
leaves past users kept served e h legal = record {
  legal = legal;
  whole = λ other. kept_with past users kept e h (unbroken_else kept.keeper.broken served other);
  broken = λ is. crash_leaves past users kept e h (broken_at_eight kept.keeper.broken served is);
}

-- nothing more is there at once
pub leaves_none : (users other : Users) (journal : List Entry) (status : ℕ) (told : Option Past) → other ≡ users → LeavesJournal other journal status told → LeavesMore users journal status told
leaves_none users other journal status told e h =
    ([], subst (λ (entries : List Entry). LeavesJournal users entries status told) (sym (append-nil journal)) (subst (λ (known : Users). LeavesJournal known journal status told) e h))

pub leaves_more : (users other : Users) (journal later : List Entry) (status : ℕ) (told : Option Past) → other ≡ users → (more : List Entry) × (later ≡ journal ++ more) → LeavesJournal other later status told → LeavesMore users journal status told
leaves_more users other journal later status told e (more, grown) h =
    (more, subst (λ (entries : List Entry). LeavesJournal users entries status told) grown (subst (λ (known : Users). LeavesJournal known later status told) e h))

-- so a server that began with such a book, and left a journal, served from the one to the other
pub served_from : {D : Type 0} (past : D → Option Past) (users : Users) (disk : D) (kept : KeptState D) (status : ℕ) (now : Option Past) → IsReady past users disk kept → LeavesMore users kept.book.work.journal status now → ServedFrom users status (past disk) now
served_from past users disk kept status now ready left = record { journal = kept.book.work.journal; stood = stood_for past users disk kept ready; leaves = left }

-- frames that were answered at a kept book

-- what is said of them is so from the state of the one journal to that of the other
pub answered : {D X : Type 0} (past : D → Option Past) (users : Users) (before now : KeptState D) (ended : FramesOn X) (told : RunTold) (count counted : ℕ)
    → before.book.users ≡ users → now.book.users ≡ users → before.keeper.broken ≡ false
    → HasEndedOn users (state_in before.book) (state_in now.book) ended told
    → IsEnteredBy users told.left before.book.work.journal now.book.work.journal → IsLegal (directory_of users) now.book.work.journal
    → IsLeft ended before.keeper.broken count now.keeper.broken counted → IsKeptOf past now.book now.keeper
    → IsAnswered users before.book.work.journal (past now.keeper.disk) ended told
answered {D} {X} past users before now (End ended) told count counted e f unbroken h entered legal left kept = (
  now.book.work.journal,
  record { entered = entered; legal = legal },
  kept_with past users now f kept (left ∙ unbroken),
  subst (λ (known : Users). HasEndedOn {X = X} users (state_behind users before.book.work.journal) (state_behind known now.book.work.journal) (End ended) told) f
      (subst (λ (known : Users). HasEndedOn {X = X} users (state_behind known before.book.work.journal) (state_in now.book) (End ended) told) e h),
)
answered {D} {X} past users before now (Broken fault) told count counted e f unbroken h entered legal left kept = (
  now.book.work.journal,
  record { entered = entered; legal = legal },
  crash_leaves past users now f kept left.0,
  subst (λ (known : Users). HasEndedOn {X = X} users (state_behind known before.book.work.journal) (state_in now.book) (Broken fault) told) e h,
)

-- a fault was counted where one was told
pub told_fault : {X : Type 0} (ended : FramesOn X) (broken : Bool) (now : Bool) (count counted : ℕ) → IsLeft ended broken count now counted → broken ≡ false → IfBroken ended (Rose count counted)
told_fault (End ended) broken now count counted left unbroken = tt
told_fault (Broken fault) broken now count counted left unbroken = left.1 unbroken
