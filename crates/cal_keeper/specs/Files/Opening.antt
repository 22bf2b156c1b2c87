-- How a journal file is opened.
-- Given: the users, the disk before, and how the opening ended.
use Rattle.std.specs.Prelude.{◌≡◌, ◌≢◌, ℕ, ◌⊎◌, nat_eq, List, [], Option, IfSome, option_map}
use Rattle.std.specs.List.{common_prefix_len}
use Rattle.cal_base.specs.World.Outside.{Rose}
use Rattle.cal_model.specs.History.Journal.{Entry}
use Rattle.cal_model.specs.Users.UsersFile.{Users}
use Rattle.cal_keeper.specs.declared.opening.Opened.{Opened}
use Rattle.cal_keeper.specs.declared.opening.Opened.TheVariants as end
use Rattle.cal_keeper.specs.Disks.CrashModel.{Past, reading, synced}
use Rattle.cal_keeper.specs.Files.Headers.{users_text, HasHeader}
use Rattle.cal_keeper.specs.Files.Standing.{StandsFor, IsRead}
use Rattle.cal_keeper.specs.Principals.{counts_of}

-- the octets do not begin with the form of a header
abbrev pub IsNoJournal : List ℕ → Type 0
IsNoJournal octets = (text : List ℕ) → HasHeader text octets → ⊥

-- the first place at which two texts differ, where one may end before the other
abbrev pub first_difference : List ℕ → List ℕ → ℕ
first_difference a b = common_prefix_len nat_eq a b

-- they begin with a header of other users, whose text differs first at this place
abbrev pub IsOfOthers : Users → ℕ → List ℕ → Type 0
IsOfOthers users place octets = (text : List ℕ) × HasHeader text octets × (text ≢ users_text users) × (place ≡ first_difference text (users_text users))

-- How it ended: a reader that has read no entry yet, over a file that was synced, so that a crash leaves it as it reads; or no journal; or a journal of other users; or a failure, for which a fault was counted; or want of memory.
abbrev pub IsOpened : {D : Type 0} → (D → Option Past) → (D → ℕ) → Users → D → Opened D → Type 0
IsOpened past faults users disk (end.Ready reader) =
    (past reader.disk ≡ option_map synced (past disk)) × IfSome (past reader.disk) (IsRead users [] reader.place) × (reader.principals ≡ counts_of users) × (reader.records ≡ 0)
IsOpened past faults users disk (end.NotJournal left) = IfSome (past disk) (λ p. IsNoJournal (reading p))
IsOpened past faults users disk (end.OtherUsers left place) = IfSome (past disk) (λ p. IsOfOthers users place (reading p))
IsOpened past faults users disk (end.Failed left) = Rose (faults disk) (faults left)
IsOpened past faults users disk (end.NoMemory left) = Unit {0}

-- the octets stand for no entries of these users
abbrev pub StandsForNone : Users → List ℕ → Type 0
StandsForNone users octets = (entries : List Entry) → StandsFor users entries octets → ⊥

-- a file that is refused stands for none
abbrev pub IsRightlyRefused : {D : Type 0} → (D → Option Past) → Users → D → Opened D → Type 0
IsRightlyRefused past users disk (end.NotJournal left) = IfSome (past disk) (λ p. StandsForNone users (reading p))
IsRightlyRefused past users disk (end.OtherUsers left place) = IfSome (past disk) (λ p. StandsForNone users (reading p))
IsRightlyRefused past users disk other = Unit {0}

-- nothing was written, though the file may have been synced
abbrev pub IsUnwritten : Option Past → Option Past → Type 0
IsUnwritten old new = (new ≡ old) ⊎ (new ≡ option_map synced old)

-- the disk that is left
abbrev pub disk_left : {D : Type 0} → Opened D → D
disk_left (end.Ready reader) = reader.disk
disk_left (end.NotJournal disk) = disk
disk_left (end.OtherUsers disk place) = disk
disk_left (end.Failed disk) = disk
disk_left (end.NoMemory disk) = disk
