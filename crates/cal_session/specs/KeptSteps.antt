-- What a kept book makes of the entry of an accepted change.
-- Given: as in KeptBooks. The public contracts cite none of it.
use Rattle.std.specs.Prelude.{◌≡◌, ◌+◌, false, not, Option, Some, None}
use Rattle.cal_model.specs.History.Journal.{Entry}
use Rattle.cal_keeper.specs.Disks.CrashModel.{Past}
use Rattle.cal_keeper.specs.Files.Appending.{AppendsTo}
use Rattle.cal_keeper.specs.Keepers.{KeeperState}

-- an entry was appended, or it was tried
pub record HasAppended {D : Type 0} (past : D → Option Past) (entry : Entry) (old new : KeeperState D) : Type 0 where
  pub principals : new.principals ≡ old.principals
  pub records : new.broken ≡ false → new.records ≡ old.records + 1
  pub appends : AppendsTo past old new entry (not new.broken)

-- the entry of a number was, if there is one
abbrev pub HasKept : {D : Type 0} → (D → Option Past) → Option Entry → KeeperState D → KeeperState D → Type 0
HasKept past None old new = new ≡ old
HasKept past (Some entry) old new = HasAppended past entry old new
