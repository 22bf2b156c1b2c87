-- How a journal file is made.
-- Given: the users, the disk before, and how the making of the file ended.
use Rattle.std.specs.Prelude.{◌≡◌, ◌≢◌, ℕ, false, [], length, Option, IfSome}
use Rattle.cal_base.specs.World.Outside.{Rose}
use Rattle.cal_model.specs.Users.UsersFile.{Users}
use Rattle.cal_keeper.specs.declared.creating.Created.{Created}
use Rattle.cal_keeper.specs.declared.creating.Created.TheVariants as end
use Rattle.cal_keeper.specs.Disks.CrashModel.{Past, reading}
use Rattle.cal_keeper.specs.Files.Standing.{IsKeptFor}
use Rattle.cal_keeper.specs.Principals.{counts_of}

-- the file had so many octets, where that is told
abbrev pub HasLength : ℕ → Option Past → Type 0
HasLength count told = IfSome told (λ past. count ≡ length (reading past))

-- How it ended: a file that is kept for no entries, which had no octets before; or a file that has some; or a failure, for which a fault was counted; or want of memory.
abbrev pub IsCreated : {D : Type 0} → (D → Option Past) → (D → ℕ) → Users → D → Created D → Type 0
IsCreated past faults users disk (end.Done keeper) =
    HasLength 0 (past disk) × IfSome (past keeper.disk) (IsKeptFor users [] keeper.place) × (keeper.principals ≡ counts_of users) × (keeper.records ≡ 0) × (keeper.broken ≡ false)
IsCreated past faults users disk (end.NotEmpty left count) = HasLength count (past disk) × (count ≢ 0) × (past left ≡ past disk)
IsCreated past faults users disk (end.Failed left) = Rose (faults disk) (faults left)
IsCreated past faults users disk (end.NoMemory left) = past left ≡ past disk

-- the disk that is left
abbrev pub disk_left : {D : Type 0} → Created D → D
disk_left (end.Done keeper) = keeper.disk
disk_left (end.NotEmpty disk count) = disk
disk_left (end.Failed disk) = disk
disk_left (end.NoMemory disk) = disk
