-- What a crash leaves over several calls that write a journal file whole: they are made one after another, and each says only what a crash within it leaves.
-- Given: what the contracts of these calls tell, call by call. These laws are part of the contract of `file_laws`.
use Rattle.std.specs.Prelude.{ℕ, List}
use Rattle.cal_model.specs.History.Journal.{Entry}
use Rattle.cal_model.specs.Users.UsersFile.{Users}
use Rattle.cal_keeper.specs.Disks.CrashModel.{Past, LeavesOnly}
use Rattle.cal_keeper.specs.Files.Drafts.{IsDraftOf, IsNoneOrWhole}
use Rattle.cal_keeper.specs.Files.Opening.{IsNoJournal}

-- a crash leaves no journal of a draft
abbrev pub DraftsAreNoJournals : Type 0
DraftsAreNoJournals = (users : Users) (entries : List Entry) (place : ℕ) (past : Past) → IsDraftOf users entries place past → LeavesOnly IsNoJournal past past

-- what two runs of calls leave, one behind the other
abbrev pub DraftsGoOn : Type 0
DraftsGoOn = (first mid last : Past) → LeavesOnly IsNoJournal first mid → LeavesOnly IsNoJournal mid last → LeavesOnly IsNoJournal first last

-- the same, where the second finishes the file
abbrev pub DraftsAreFinished : Type 0
DraftsAreFinished =
    (users : Users) (entries : List Entry) (first mid last : Past)
    → LeavesOnly IsNoJournal first mid → LeavesOnly (IsNoneOrWhole users entries) mid last → LeavesOnly (IsNoneOrWhole users entries) first last
