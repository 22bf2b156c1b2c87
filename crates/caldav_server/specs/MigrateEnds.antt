-- How the command `migrate` ends, and what each end tells.
-- Given: what the two users files have, where that is told, and the disks of the two journals before and after.
use Rattle.std.specs.Prelude.{◌≡◌, ◌≢◌, ◌⊎◌, ◌<◌, ℕ, List, length, Option, IfSome, option_map}
use Rattle.cal_base.specs.World.Outside.{Rose}
use Rattle.cal_model.specs.State.ServerState.{directory_of, user_name, group_name}
use Rattle.cal_model.specs.Users.UsersFile.{Users as KnownUsers}
use Rattle.cal_keeper.specs.Disks.CrashModel.{Past, synced}
use Rattle.cal_keeper.specs.Files.Creating.{HasLength}
use Rattle.cal_keeper.specs.Files.Drafts.{FailsTold}
use Rattle.cal_script.specs.UsersTaken.{AreUsersOf, IsRefusedAt}
use Rattle.journal_migration.specs.Migrations.{IsDone, IsUserGone, IsGroupGone, IsRefused, IsMismatch, IsDeclined, IsMigrated}
use Rattle.journal_migration.specs.Stops.{LeavesNoneOrWhole, Since}
use Rattle.journal_migration.specs.declared.gone.Principal.TheVariants.{User, Group}
use Rattle.journal_migration.specs.declared.migrating.Migrated.{Migrated}
use Rattle.journal_migration.specs.declared.migrating.Migrated.TheVariants as migrated
use Rattle.caldav_server.specs.declared.migrate.MigrateEnd.{MigrateEnd}
use Rattle.caldav_server.specs.declared.migrate.MigrateEnd.TheVariants.{Done, Words, Line, Unread, UserGone, GroupGone, Refused, Declined, NotEmpty, OldFailed, NotBegun, NewFailed, NoMemory}
use Rattle.caldav_server.specs.declared.migrate.Side.{Side}
use Rattle.caldav_server.specs.declared.migrate.Side.TheVariants.{Old, New}

-- the status: 0 it is done; 2 the words are not taken; 3 a users file is too long or has a bad line; 4 one cannot be read; 7 there was no memory; 8 a call of a disk failed; 9 the old journal, or a change of it, is refused; 10 somebody is gone; 12 the new journal is there already
abbrev pub status_of : MigrateEnd → ℕ
status_of Done = 0
status_of Words = 2
status_of (Line side place) = 3
status_of (Unread side) = 4
status_of (UserGone name) = 10
status_of (GroupGone name) = 10
status_of (Refused place) = 9
status_of (Declined place) = 9
status_of (NotEmpty count) = 12
status_of OldFailed = 8
status_of NotBegun = 8
status_of NewFailed = 8
status_of NoMemory = 7

-- the users are those of the two files, where these are told
pub record AreTaken (told new_told : Option (List ℕ)) (old new : KnownUsers) : Type 0 where
  pub old_are : IfSome told (λ octets. AreUsersOf octets old)
  pub new_are : IfSome new_told (λ octets. AreUsersOf octets new)

-- of the users of the two files this holds
pub record OfBoth (told new_told : Option (List ℕ)) (P : KnownUsers → KnownUsers → Type 0) : Type 0 where
  pub old : KnownUsers
  pub new : KnownUsers
  pub taken : AreTaken told new_told old new
  pub so : P old new

-- what is refused of the old journal: the file itself, or a change of it that its own users' book does not accept as it was
abbrev pub IsRefusedJournal : KnownUsers → Option Past → ℕ → Type 0
IsRefusedJournal old from place = IsRefused old from place ⊎ ((kept made : ℕ) × IsMismatch old (option_map synced from) place kept made)

-- What an end behind the words tells.
abbrev pub IsEnd : {D : Type 0} → (D → Option Past) → (D → ℕ) → (told new_told : Option (List ℕ)) → (from to from_after to_after : D) → MigrateEnd → Type 0
IsEnd past faults told new_told from to from_after to_after Done = OfBoth told new_told (λ old new. IsDone old new (past from) (past to) (past to_after))
IsEnd past faults told new_told from to from_after to_after Words = ⊥
IsEnd past faults told new_told from to from_after to_after (Line Old place) = IfSome told (λ octets. IsRefusedAt octets place)
IsEnd past faults told new_told from to from_after to_after (Line New place) = IfSome new_told (λ octets. IsRefusedAt octets place)
IsEnd past faults told new_told from to from_after to_after (Unread side) = Unit {0}
IsEnd past faults told new_told from to from_after to_after (UserGone name) =
    OfBoth told new_told (λ old new. (user : ℕ) × IsUserGone old new user × (name ≡ user_name (directory_of old) user))
IsEnd past faults told new_told from to from_after to_after (GroupGone name) =
    OfBoth told new_told (λ old new. (group : ℕ) × IsGroupGone old new group × (name ≡ group_name (directory_of old) group))
IsEnd past faults told new_told from to from_after to_after (Refused place) = OfBoth told new_told (λ old new. IsRefusedJournal old (past from) place)
IsEnd past faults told new_told from to from_after to_after (Declined place) =
    OfBoth told new_told (λ old new. (kept made : ℕ) × IsDeclined old new (option_map synced (past from)) place kept made)
IsEnd past faults told new_told from to from_after to_after (NotEmpty count) = HasLength count (past to) × (count ≢ 0)
IsEnd past faults told new_told from to from_after to_after OldFailed = Rose (faults from) (faults from_after)
IsEnd past faults told new_told from to from_after to_after NotBegun = Rose (faults to) (faults to_after)
IsEnd past faults told new_told from to from_after to_after NewFailed = Rose (faults to) (faults to_after)
IsEnd past faults told new_told from to from_after to_after NoMemory = Unit {0}

-- where a users file could not be read, a call that reads it failed
abbrev pub HasFailed : (files_failed new_files_failed : Type 0) → MigrateEnd → Type 0
HasFailed files_failed new_files_failed (Unread Old) = files_failed
HasFailed files_failed new_files_failed (Unread New) = new_files_failed
HasFailed files_failed new_files_failed other = Unit {0}

-- What a stop leaves of the new journal, at whichever moment of the command it comes, by the end. Where it is done, or a later call failed: since the blank was on the disk each crash left no journal, or the whole one. Where the file was not begun: what a failure of the beginning leaves. At each other end nothing was done to it.
abbrev pub StopsLeave : (told new_told : Option (List ℕ)) → (from to to_after : Option Past) → MigrateEnd → Type 0
StopsLeave told new_told from to to_after Done = OfBoth told new_told (λ old new. Since (LeavesNoneOrWhole old new from) to to_after)
StopsLeave told new_told from to to_after NewFailed = OfBoth told new_told (λ old new. Since (LeavesNoneOrWhole old new from) to to_after)
StopsLeave told new_told from to to_after NotBegun = FailsTold to to_after
StopsLeave told new_told from to to_after other = to_after ≡ to

-- The parts of the command

-- why a users file was not taken
abbrev pub IsNotRead : Option (List ℕ) → ℕ → ℕ → Side → MigrateEnd → Type 0
IsNotRead content before after side (Line told place) = (told ≡ side) × IfSome content (λ octets. IsRefusedAt octets place)
IsNotRead content before after side (Unread told) = (told ≡ side) × Rose before after
IsNotRead content before after side NoMemory = Unit {0}
IsNotRead content before after side other = ⊥

-- what is told of the end of a carrying
abbrev pub told_of : KnownUsers → Migrated → MigrateEnd
told_of old migrated.Done = Done
told_of old (migrated.Gone (User user)) = UserGone (user_name (directory_of old) user)
told_of old (migrated.Gone (Group group)) = GroupGone (group_name (directory_of old) group)
told_of old (migrated.Refused place) = Refused place
told_of old (migrated.Mismatch place kept made) = Refused place
told_of old (migrated.Declined place kept made) = Declined place
told_of old (migrated.NotEmpty count) = NotEmpty count
told_of old migrated.OldFailed = OldFailed
told_of old migrated.NotBegun = NotBegun
told_of old migrated.NewFailed = NewFailed
told_of old migrated.NoMemory = NoMemory

-- somebody is gone
abbrev pub IsGone : Migrated → Type 0
IsGone (migrated.Gone principal) = Unit {0}
IsGone other = ⊥

-- who is gone is one of the old users
abbrev pub IsGoneOf : KnownUsers → Migrated → Type 0
IsGoneOf old (migrated.Gone (User user)) = user < length old.people
IsGoneOf old (migrated.Gone (Group group)) = group < length old.groups
IsGoneOf old other = Unit {0}

-- what an end behind the users files tells
abbrev pub IsToldEnd : {D : Type 0} → (D → Option Past) → (D → ℕ) → KnownUsers → KnownUsers → (from to from_after to_after : D) → MigrateEnd → Type 0
IsToldEnd past faults old new from to from_after to_after NoMemory = Unit {0}
IsToldEnd past faults old new from to from_after to_after end = (made : Migrated) × (end ≡ told_of old made) × IsMigrated past faults old new from to from_after to_after made

-- and what a stop leaves by it
abbrev pub ToldStops : KnownUsers → KnownUsers → (from to to_after : Option Past) → MigrateEnd → Type 0
ToldStops old new from to to_after Done = Since (LeavesNoneOrWhole old new from) to to_after
ToldStops old new from to to_after NewFailed = Since (LeavesNoneOrWhole old new from) to to_after
ToldStops old new from to to_after NotBegun = FailsTold to to_after
ToldStops old new from to to_after other = to_after ≡ to
