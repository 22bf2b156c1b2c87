-- What a stop leaves of the new file, at whichever moment of the call it comes. The first two calls that do anything to it write a blank in the place of its mark and bring that to the disk; until then, as in each file that is made, a stop may leave anything.
-- Given: the old and the new users, the past of the old file, and the pasts of the new one before and after, where the disks tell them; and how the call ended.
use Rattle.std.specs.Prelude.{◌≡◌, ◌⊎◌, ℕ, List, Option, Some, None, IfSome}
use Rattle.cal_model.specs.History.Journal.{Entry}
use Rattle.cal_model.specs.Users.UsersFile.{Users}
use Rattle.cal_keeper.specs.Disks.CrashModel.{Past, reading, LeavesOnly}
use Rattle.cal_keeper.specs.Files.Drafts.{with_blank, FailsTold}
use Rattle.cal_keeper.specs.Files.Opening.{IsNoJournal}
use Rattle.cal_keeper.specs.Files.Standing.{StandsFor}
use Rattle.journal_migration.specs.Renumbering.{moved_entries}
use Rattle.journal_migration.specs.declared.migrating.Migrated.{Migrated}
use Rattle.journal_migration.specs.declared.migrating.Migrated.TheVariants.{Done, NotBegun, NewFailed}

-- the octets stand for what the old file stands for, for the new users
abbrev pub IsWhole : Users → Users → Option Past → List ℕ → Type 0
IsWhole old new from octets = (entries : List Entry) × IfSome from (λ past. StandsFor old entries (reading past)) × StandsFor new (moved_entries old new entries) octets

-- the octets are no journal, or the whole one
abbrev pub IsNoneOrWhole : Users → Users → Option Past → List ℕ → Type 0
IsNoneOrWhole old new from octets = IsNoJournal octets ⊎ IsWhole old new from octets

-- since the blank was on the disk each crash left no journal, or the whole one
abbrev pub LeavesNoneOrWhole : Users → Users → Option Past → Past → Past → Type 0
LeavesNoneOrWhole old new from to after = LeavesOnly (IsNoneOrWhole old new from) (with_blank to) after

-- a fact of two pasts, where the first is told; the second is told exactly where the first is
abbrev pub Since : (Past → Past → Type 0) → Option Past → Option Past → Type 0
Since fact None new = new ≡ None
Since fact (Some first) new = (past : Past) × (new ≡ Some past) × fact first past

-- By the end of the call. Where it is done, or a later call failed: that. Where the file was not begun: what a failure of the beginning leaves. At each other end nothing was done to the file.
abbrev pub StopsLeave : Users → Users → (from to to_after : Option Past) → Migrated → Type 0
StopsLeave old new from to to_after Done = Since (LeavesNoneOrWhole old new from) to to_after
StopsLeave old new from to to_after NewFailed = Since (LeavesNoneOrWhole old new from) to to_after
StopsLeave old new from to to_after NotBegun = FailsTold to to_after
StopsLeave old new from to to_after other = to_after ≡ to
