-- What reading a journal file to its end comes to: it gives exactly the events for which the file stands; and what a crash leaves in the course of appending is read so.
-- Given: what the contracts of `open`, `next` and `append` tell, call by call. These laws are the contract of `file_laws`.
use Rattle.std.specs.Prelude.{◌≡◌, ◌⊎◌, ℕ, Bool, true, IsTrue, List, [], ◌∷◌, ◌++◌, map}
use Rattle.cal_model.specs.declared.request.Event.{Event}
use Rattle.cal_model.specs.History.Journal.{Entry}
use Rattle.cal_model.specs.Users.UsersFile.{Users}
use Rattle.cal_keeper.specs.Disks.CrashModel.{Past, reading, MayLeave, moment, LeftSince, IsPossible}
use Rattle.cal_keeper.specs.Files.Appending.{Appends, StandsWithOrWithout}
use Rattle.cal_keeper.specs.Files.NextEntries.{IsEventOf, GoesOn, Ends, IsBadAt}
use Rattle.cal_keeper.specs.Files.Standing.{recorded, events_of, StandsFor, Stands, IsKeptFor, IsRead}

-- Calls of `next` gave these events with their statuses, from the place of one gate to that of another.
abbrev pub GoesThrough : Users → Past → ℕ → List (Event × ℕ) → ℕ → Type 0
GoesThrough users past first [] last = first ≡ last
GoesThrough users past first (given ∷ more) last =
    (entry : Entry) × (next : ℕ) × IsEventOf users given.0 given.1 entry × GoesOn users entry first next past × GoesThrough users past next more last

-- A file was opened, calls of `next` gave these events with their statuses, and one more gave the end.
pub record IsReadThrough (users : Users) (events : List (Event × ℕ)) (past : Past) : Type 0 where
  pub first : ℕ
  pub last : ℕ
  pub opened : IsRead users [] first past
  pub gave : GoesThrough users past first events last
  pub ended : Ends users last past

-- Then the file stands for these events and for no others, and is kept for the entries that it stands for.
pub record IsExact (users : Users) (events : List (Event × ℕ)) (last : ℕ) (past : Past) : Type 0 where
  pub stands : Stands (reading past) users events
  pub no_others : (others : List (Event × ℕ)) → Stands (reading past) users others → others ≡ events
  pub kept : (entries : List Entry) → StandsFor users entries (reading past) → IsKeptFor users entries last past

abbrev pub ReadingsAreExact : Type 0
ReadingsAreExact = (users : Users) (events : List (Event × ℕ)) (past : Past) (through : IsReadThrough users events past) → IsExact users events through.last past

-- Where a file stands for events, what was read of it so far is the front of them, and nothing bad comes next.
pub record IsFrontOf (users : Users) (given all : List (Event × ℕ)) (place : ℕ) (past : Past) : Type 0 where
  pub more : List (Event × ℕ)
  pub all_are : all ≡ given ++ more
  pub not_bad : IsBadAt users place past → ⊥

abbrev pub StandingFilesAreRead : Type 0
StandingFilesAreRead =
    (users : Users) (given all : List (Event × ℕ)) (first place : ℕ) (past : Past)
    → IsRead users [] first past → GoesThrough users past first given place → Stands (reading past) users all → IsFrontOf users given all place past

-- a file that has these octets is opened and read to its end, and gives these events
abbrev pub ReadsAs : Users → List ℕ → List (Event × ℕ) → Type 0
ReadsAs users octets events = (past : Past) × (reading past ≡ octets) × IsReadThrough users events past

-- What a crash left in the course of appending an entry is read as the events before, or as these and the new one; where the entry went through, as these and the new one.
pub record IsRecovered (users : Users) (entries : List Entry) (entry : Entry) (went_through : Bool) (old new : Past) : Type 0 where
  pub any_moment : (image : List ℕ) (events : List (Event × ℕ)) → LeftSince (moment old) new image → ReadsAs users image events
      → (events ≡ events_of users entries) ⊎ (events ≡ events_of users (entries ++ recorded entry ∷ []))
  pub acknowledged : IsTrue went_through → (image : List ℕ) (events : List (Event × ℕ)) → MayLeave new image → ReadsAs users image events
      → events ≡ events_of users (entries ++ recorded entry ∷ [])

abbrev pub CrashesAreRecovered : Type 0
CrashesAreRecovered =
    (users : Users) (entries : List Entry) (entry : Entry) (place next : ℕ) (went_through : Bool) (old new : Past)
    → IsKeptFor users entries place old → Appends users entry place next went_through old new → IsRecovered users entries entry went_through old new

-- After a call that failed the file as it reads stands for the entries before, or for these and the new one, so that it can be opened again.
abbrev pub FailuresLeaveFiles : Type 0
FailuresLeaveFiles =
    (users : Users) (entries : List Entry) (entry : Entry) (place next : ℕ) (went_through : Bool) (old new : Past)
    → IsKeptFor users entries place old → Appends users entry place next went_through old new → IsPossible new → StandsWithOrWithout users entries (recorded entry) (reading new)

-- Entries were appended one after another from a moment on, and each call went through.
abbrev pub AppendsThrough : Users → ℕ → Past → List Entry → ℕ → Past → Type 0
AppendsThrough users place old [] last new = (place ≡ last) × (old ≡ new)
AppendsThrough users place old (entry ∷ more) last new =
    (next : ℕ) × (between : Past) × Appends users entry place next true old between × AppendsThrough users next between more last new

-- the events of the entries before, and of the first of those that were appended since, none or some or all
pub record IsFrontRead (users : Users) (entries appended : List Entry) (events : List (Event × ℕ)) : Type 0 where
  pub front : List Entry
  pub rest : List Entry
  pub appended_are : appended ≡ front ++ rest
  pub events_are : events ≡ events_of users (entries ++ map recorded front)

-- A crash at any moment since, within a call or between two, leaves a file that is read so: what was acknowledged before that moment is all there, and what came since is there up to some entry. At the end the file is kept for all of them.
pub record IsHistoryKept (users : Users) (entries appended : List Entry) (last : ℕ) (old new : Past) : Type 0 where
  pub any_moment : (image : List ℕ) (events : List (Event × ℕ)) → LeftSince (moment old) new image → ReadsAs users image events → IsFrontRead users entries appended events
  pub acknowledged : IsKeptFor users (entries ++ map recorded appended) last new

abbrev pub HistoriesAreKept : Type 0
HistoriesAreKept =
    (users : Users) (entries appended : List Entry) (place last : ℕ) (old new : Past)
    → IsKeptFor users entries place old → AppendsThrough users place old appended last new → IsHistoryKept users entries appended last old new
