-- What contracts see of a kept book, and what holds of each: the file has what the journal has.
-- Given: a book and a keeper, as contracts see them, and the past of a disk, where that is told. What a file stands for is said by `Files` of the crate that keeps it.
use Rattle.std.specs.Prelude.{◌≡◌, ◌⊎◌, ℕ, true, false, List, [], ◌∷◌, ◌++◌, length, map, Option, IfSome}
use Rattle.cal_model.specs.History.Journal.{Entry}
use Rattle.cal_model.specs.Users.UsersFile.{Users}
use Rattle.cal_keeper.specs.Disks.CrashModel.{Past, MayLeave}
use Rattle.cal_keeper.specs.Files.Standing.{recorded, StandsFor, IsKeptFor}
use Rattle.cal_keeper.specs.Keepers.{KeeperState}
use Rattle.cal_keeper.specs.Principals.{counts_of}
use Rattle.cal_book.specs.Cores.{Core}

pub record KeptState (D : Type 0) : Type 0 where
  pub book : Core
  pub keeper : KeeperState D

-- the octets stand for all entries of a journal, or for all but its last
abbrev pub StandsForAllOrButLast : Users → List Entry → List ℕ → Type 0
StandsForAllOrButLast users journal octets =
    StandsFor users (map recorded journal) octets ⊎ ((front : List Entry) × (last : Entry) × (journal ≡ front ++ last ∷ []) × StandsFor users (map recorded front) octets)

-- each crash leaves such a file
abbrev pub LeavesAllOrButLast : Users → List Entry → Past → Type 0
LeavesAllOrButLast users journal past = (image : List ℕ) → MayLeave past image → StandsForAllOrButLast users journal image

-- As long as no call failed there are as many records as entries, and the file is kept for the journal: it stands for its entries, whose sessions are not written, and so does what a crash leaves of it.
-- Once a call failed, that was in keeping the last entry at the latest: of it alone nobody was told, and it may be in the file or not.
pub record IsKeptOf {D : Type 0} (past : D → Option Past) (book : Core) (keeper : KeeperState D) : Type 0 where
  pub principals : keeper.principals ≡ counts_of book.users
  pub records : keeper.broken ≡ false → keeper.records ≡ length book.work.journal
  pub file : keeper.broken ≡ false → IfSome (past keeper.disk) (IsKeptFor book.users (map recorded book.work.journal) keeper.place)
  pub left : keeper.broken ≡ true → IfSome (past keeper.disk) (LeavesAllOrButLast book.users book.work.journal)
