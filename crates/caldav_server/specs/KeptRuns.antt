-- What a run makes of a journal file.
-- Given: the users, what the disk tells of its file before and after the run, and what the input and the output do. What a file stands for says `Files` of the keeper, which requests are entered `EnteredRequests` of scripts, and what is printed `ScriptEnds` there.
use Rattle.std.specs.Prelude.{◌≡◌, ◌⊎◌, ℕ, List, [], map, Option, IfSome}
use Rattle.std.specs.List.{AllByRecursion}
use Rattle.cal_model.specs.History.Journal.{Entry, IsLegal}
use Rattle.cal_model.specs.State.ServerState.{directory_of}
use Rattle.cal_model.specs.Users.UsersFile.{Users}
use Rattle.cal_keeper.specs.Disks.CrashModel.{Past, reading}
use Rattle.cal_keeper.specs.Files.Standing.{recorded, StandsFor, IsKeptFor}
use Rattle.cal_book.specs.EventSteps.{state_behind}
use Rattle.cal_session.specs.KeptBooks.{LeavesAllOrButLast}
use Rattle.cal_session.specs.Loading.{IsLoaded}
use Rattle.cal_session.specs.declared.loading.Loaded.TheVariants.{Refused, Mismatch}
use Rattle.cal_script.specs.EnteredRequests.{IsEnteredBy}
use Rattle.cal_script.specs.ScriptEnds.{BrokeOff, HasEnded, IsPrintedFrom, IsPrintedInPartFrom, RunTold}
use Rattle.cal_script.specs.Standings.{standing_in}
use Rattle.cal_script.specs.declared.running.FramesOn.{FramesOn}
use Rattle.cal_script.specs.declared.running.FramesOn.TheVariants.{End, Broken}

-- Files

-- The file stood for this journal: it had no octets, and the journal has no entries, or it stands for them. Each of them is accepted behind those before it, from the opening state on, and bears the session 0.
pub record StoodFor (users : Users) (journal : List Entry) (told : Option Past) : Type 0 where
  pub legal : IsLegal (directory_of users) journal
  pub sessions : AllByRecursion (λ (entry : Entry). entry.session ≡ 0) journal
  pub file : IfSome told (λ past. ((reading past ≡ []) × (journal ≡ [])) ⊎ StandsFor users journal (reading past))

-- The file is kept for a journal, whatever sessions its entries bear: it stands for them, and each crash from now on leaves it so.
abbrev pub IsKeptWith : Users → List Entry → Option Past → Type 0
IsKeptWith users journal told = IfSome told (λ past. (place : ℕ) × IsKeptFor users (map recorded journal) place past)

-- The file is refused: it is none of these users, goes on badly at that place, or has a change there that is not accepted as it was. Then it stands for no legal history of theirs.
abbrev pub IsFileRefused : {D : Type 0} → (D → Option Past) → (D → ℕ) → Users → D → D → ℕ → Type 0
IsFileRefused past faults users disk left place =
    IsLoaded past faults users disk (Refused left place) ⊎ ((kept : ℕ) × (made : ℕ) × IsLoaded past faults users disk (Mismatch left place kept made))

-- Journals

-- A journal goes on by entries of requests that frames at the front of the input complete, in their order, and stays legal.
pub record GoesOn (users : Users) (before after : List Entry) (input : Option (List ℕ)) : Type 0 where
  pub entered : IsEnteredBy users input before after
  pub legal : IsLegal (directory_of users) after

-- what may be printed for frames from the state of one journal on, where they lead to that of another; and a beginning of it
abbrev pub PrintsBetween : Users → List Entry → List Entry → List ℕ → List ℕ → List ℕ → Type 0
PrintsBetween users before after input rest output = IsPrintedFrom users (standing_in (state_behind users before)) (state_behind users after) input rest output

abbrev pub PrintsInPart : Users → List Entry → List ℕ → List ℕ → Type 0
PrintsInPart users before input output = IsPrintedInPartFrom users (standing_in (state_behind users before)) input output

-- Runs

-- The run began with a journal for which the file stood, and went on with it. The file that is left is kept for all of it, and this holds of the journal before and after.
pub record RanOn (users : Users) (found left : Option Past) (input : Option (List ℕ)) (P : List Entry → List Entry → Type 0) : Type 0 where
  pub before : List Entry
  pub after : List Entry
  pub stood : StoodFor users before found
  pub goes_on : GoesOn users before after input
  pub kept : IsKeptWith users after left
  pub so : P before after

-- It was broken off at a request, before which all replies were written, and no part of another. Each crash leaves a file that stands for all of the journal, or for all but its last entry, of which nobody was told.
pub record BrokeOn (users : Users) (found left : Option Past) (told : RunTold) : Type 0 where
  pub before : List Entry
  pub after : List Entry
  pub stood : StoodFor users before found
  pub goes_on : GoesOn users before after told.left
  pub crash : IfSome left (LeavesAllOrButLast users after)
  pub broke : BrokeOff users (standing_in (state_behind users before)) told

-- What is said of frames that were answered at the book of a journal, with its file, is so.
abbrev pub IsAnswered : {X : Type 0} → Users → List Entry → Option Past → FramesOn X → RunTold → Type 0
IsAnswered users before left (End ended) told =
    (after : List Entry) × GoesOn users before after told.left × IsKeptWith users after left
    × HasEnded (PrintsBetween users before after) (PrintsInPart users before) ended told
IsAnswered users before left (Broken fault) told =
    (after : List Entry) × GoesOn users before after told.left × IfSome left (LeavesAllOrButLast users after)
    × BrokeOff users (standing_in (state_behind users before)) told

-- a fault was told, and so one was counted
abbrev pub IfBroken : {X : Type 0} → FramesOn X → Type 0 → Type 0
IfBroken (End ended) P = Unit {0}
IfBroken (Broken fault) P = P
