-- What an end of the command `migrate` tells, and what a stop leaves of the new journal by it, from how its parts ended.
use Rattle.std.proofs.Common.{◌≡◌, ◌⊎◌, inl, inr, ℕ, List, Option, refl, sym, subst}
use Rattle.cal_model.specs.Users.UsersFile.{Users as KnownUsers}
use Rattle.cal_keeper.specs.Disks.CrashModel.{Past}
use Rattle.journal_migration.specs.Migrations.{IsMigrated}
use Rattle.journal_migration.specs.Stops.{StopsLeave as Leaves}
use Rattle.journal_migration.specs.declared.gone.Principal.TheVariants.{User, Group}
use Rattle.journal_migration.specs.declared.migrating.Migrated.{Migrated}
use Rattle.journal_migration.specs.declared.migrating.Migrated.TheVariants as migrated
use Rattle.caldav_server.specs.MigrateEnds.{AreTaken, IsEnd, StopsLeave, IsNotRead, told_of, IsGone, IsToldEnd, ToldStops}
use Rattle.caldav_server.specs.declared.migrate.MigrateEnd.{MigrateEnd}
use Rattle.caldav_server.specs.declared.migrate.MigrateEnd.TheVariants.{Done, Line, Unread, NewFailed, NoMemory}
use Rattle.caldav_server.specs.declared.migrate.Side.{Side}

-- of the carrying, as it is told
module _ (known old new : KnownUsers) (from to to_after : Option Past) where
  gone_stops : (made : Migrated) → IsGone made → Leaves old new from to to_after made → to_after ≡ to
  gone_stops (migrated.Gone principal) gone leaves = leaves
  gone_stops other gone leaves = absurd gone

  made_stops : (made : Migrated) → Leaves old new from to to_after made → ToldStops old new from to to_after (told_of known made)
  made_stops (migrated.Gone (User user)) leaves = leaves
  made_stops (migrated.Gone (Group group)) leaves = leaves
  made_stops other leaves = leaves

  pub told_stops : (made : Migrated) (end : MigrateEnd) → (IsGone made × (end ≡ NoMemory)) ⊎ (end ≡ told_of known made) → Leaves old new from to to_after made → ToldStops old new from to to_after end
  told_stops made end (inl (gone, is)) leaves = subst (ToldStops old new from to to_after) (sym is) (gone_stops made gone leaves)
  told_stops made end (inr is) leaves = subst (ToldStops old new from to to_after) (sym is) (made_stops made leaves)

-- behind both users files
module _ {D : Type 0} (past : D → Option Past) (faults : D → ℕ) (told new_told : Option (List ℕ)) (old new : KnownUsers) (taken : AreTaken told new_told old new) (from to from_after to_after : D) where
  made_end : (made : Migrated) → IsMigrated past faults old new from to from_after to_after made → IsEnd past faults told new_told from to from_after to_after (told_of old made)
  made_end migrated.Done is = record { old = old; new = new; taken = taken; so = is }
  made_end (migrated.Gone (User user)) is = record { old = old; new = new; taken = taken; so = (user, is, refl) }
  made_end (migrated.Gone (Group group)) is = record { old = old; new = new; taken = taken; so = (group, is, refl) }
  made_end (migrated.Refused place) is = record { old = old; new = new; taken = taken; so = inl is }
  made_end (migrated.Mismatch place kept made) is = record { old = old; new = new; taken = taken; so = inr (kept, made, is) }
  made_end (migrated.Declined place kept made) is = record { old = old; new = new; taken = taken; so = (kept, made, is) }
  made_end (migrated.NotEmpty count) is = is
  made_end migrated.OldFailed is = is
  made_end migrated.NotBegun is = is
  made_end migrated.NewFailed is = is
  made_end migrated.NoMemory is = tt

  pub taken_end : (end : MigrateEnd) → IsToldEnd past faults old new from to from_after to_after end → IsEnd past faults told new_told from to from_after to_after end
  taken_end NoMemory is = tt
  taken_end other (made, is, migrates) = subst (IsEnd past faults told new_told from to from_after to_after) (sym is) (made_end made migrates)

pub taken_stops : (told new_told : Option (List ℕ)) (old new : KnownUsers) (from to to_after : Option Past) (end : MigrateEnd) → AreTaken told new_told old new → ToldStops old new from to to_after end → StopsLeave told new_told from to to_after end
taken_stops told new_told old new from to to_after Done taken stops = record { old = old; new = new; taken = taken; so = stops }
taken_stops told new_told old new from to to_after NewFailed taken stops = record { old = old; new = new; taken = taken; so = stops }
taken_stops told new_told old new from to to_after other taken stops = stops

-- where a users file was not taken
pub untaken_stops : (told new_told content : Option (List ℕ)) (before after : ℕ) (side : Side) (from to : Option Past) (end : MigrateEnd) → IsNotRead content before after side end → StopsLeave told new_told from to to end
untaken_stops told new_told content before after side from to (Line told_side place) is = refl
untaken_stops told new_told content before after side from to (Unread told_side) is = refl
untaken_stops told new_told content before after side from to NoMemory is = refl
untaken_stops told new_told content before after side from to other is = absurd is

-- of the files at other paths that are the same
pub stops_at : (content new_content : List ℕ → Option (List ℕ)) (a b x y : List ℕ) (from to to_after : Option Past) (end : MigrateEnd) → a ≡ b → x ≡ y → StopsLeave (content a) (new_content x) from to to_after end
    → StopsLeave (content b) (new_content y) from to to_after end
stops_at content new_content a b x y from to to_after end same new_same stops =
    subst (λ (path : List ℕ). StopsLeave (content path) (new_content y) from to to_after end) same (subst (λ (path : List ℕ). StopsLeave (content a) (new_content path) from to to_after end) new_same stops)
