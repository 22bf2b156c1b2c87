-- What appending an entry does to a journal file, at each moment.
-- Given: the users, the entry, and the pasts before and after, where the disk tells them.
use Rattle.std.specs.Prelude.{◌≡◌, ◌⊎◌, ℕ, Bool, IsTrue, List, [], ◌∷◌, ◌++◌, Option, Some, None}
use Rattle.cal_model.specs.History.Journal.{Entry}
use Rattle.cal_model.specs.Users.UsersFile.{Users}
use Rattle.cal_keeper.specs.Disks.CrashModel.{Past, LeavesOnly}
use Rattle.cal_keeper.specs.Files.Standing.{recorded, StandsFor, IsKeptFor}
use Rattle.cal_keeper.specs.Keepers.{KeeperState}
use Rattle.cal_keeper.specs.Principals.{counts_of}

-- the octets stand for the entries before, or for these and a new one
abbrev pub StandsWithOrWithout : Users → List Entry → Entry → List ℕ → Type 0
StandsWithOrWithout users entries entry octets = StandsFor users entries octets ⊎ StandsFor users (entries ++ entry ∷ []) octets

-- At whichever moment a crash comes, it leaves a file that stands for the entries before, or for these and the new one. Where the entry went through, the file is kept for both, so that each crash from then on leaves the new one.
pub record Appends (users : Users) (entry : Entry) (place next : ℕ) (went_through : Bool) (old new : Past) : Type 0 where
  pub any_moment : (entries : List Entry) → IsKeptFor users entries place old → LeavesOnly (StandsWithOrWithout users entries (recorded entry)) old new
  pub acknowledged : IsTrue went_through → (entries : List Entry) → IsKeptFor users entries place old → IsKeptFor users (entries ++ recorded entry ∷ []) next new

-- the same, where the disk tells the past
abbrev pub AppendsTold : Users → Entry → ℕ → ℕ → Bool → Option Past → Option Past → Type 0
AppendsTold users entry place next went_through None new = new ≡ None
AppendsTold users entry place next went_through (Some old) new = (past : Past) × (new ≡ Some past) × Appends users entry place next went_through old past

-- What a keeper does so, whichever users the file is of, of whom it knows how many they are, and how many groups they have.
abbrev pub AppendsTo : {D : Type 0} → (D → Option Past) → KeeperState D → KeeperState D → Entry → Bool → Type 0
AppendsTo past old new entry went_through = (users : Users) → counts_of users ≡ old.principals → AppendsTold users entry old.place new.place went_through (past old.disk) (past new.disk)
