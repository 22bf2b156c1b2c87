-- A carrying ends as its reading or its writing does.
use Rattle.std.proofs.Common.{inl, inr, ℕ, ◌<◌, List, [], ◌∷◌, length, Option, Some, None, Ok, Err, IfSome, refl, sym, ◌∙◌, ap, subst}
use Rattle.std.specs.List.{AllByRecursion}
use Rattle.cal_model.specs.History.Journal.{Entry, IsLegal}
use Rattle.cal_model.specs.Serving.ServingLaws.{AcceptedHasItsEffect}
use Rattle.cal_model.specs.State.ServerState.{directory_of}
use Rattle.cal_model.specs.State.UserNames.{AreToldApart}
use Rattle.cal_model.specs.Users.UsersFile.{Users}
use Rattle.cal_keeper.specs.Disks.CrashModel.{Past, reading}
use Rattle.cal_keeper.specs.Files.Drafts.{with_blank, FailsTold, IsNoneOrWhole as IsNoneOrAll}
use Rattle.cal_keeper.specs.Files.Payloads.{home_of}
use Rattle.cal_keeper.specs.Files.Standing.{IsRecorded, StandsFor}
use Rattle.cal_book.specs.Cores.{directory_in}
use Rattle.journal_migration.specs.Carrying.{AreWhole, IsReadFrom}
use Rattle.journal_migration.specs.Migrations.{IsHistoryOfBoth, WritesOverNothing}
use Rattle.journal_migration.specs.Renumbering.{AreAllIn, moved_entries}
use Rattle.journal_migration.specs.Stops.{IsNoneOrWhole, LeavesNoneOrWhole, Since, StopsLeave}
use Rattle.journal_migration.specs.Writing.{LeavesNoneOrAll, IsWrittenAs}
use Rattle.journal_migration.specs.declared.carrying.Books.{Books}
use Rattle.journal_migration.specs.declared.migrating.Migrated.{Migrated}
use Rattle.journal_migration.specs.declared.migrating.Migrated.TheVariants as migrated
use Rattle.journal_migration.proofs.FormLaws.{all_recorded}
use Rattle.journal_migration.proofs.StateLaws.{same_homes}
use Rattle.journal_migration.proofs.WriteLaws.{weaker}

-- The entries of the two books

homes_within : (users : Users) (entries : List Entry) → AllByRecursion (IsRecorded users) entries → AllByRecursion (λ (entry : Entry). home_of entry.change < length users.people) entries
homes_within users [] all = tt
homes_within users (entry ∷ entries) all = (all.0.form.home, homes_within users entries all.1)

module _ (old new : Users) (all : AreAllIn old new) (books : Books) (whole : AreWhole old new books) where
  pub target_recorded : AllByRecursion (IsRecorded new) books.target.work.journal
  target_recorded = subst (λ (es : List Entry). AllByRecursion (IsRecorded new) es) (sym whole.moved) (all_recorded old new all books.source.work.journal whole.recorded)

  pub of_both : AcceptedHasItsEffect → AreToldApart (directory_of old) → AreToldApart (directory_of new) → IsLegal (directory_in books.source) books.source.work.journal → IsLegal (directory_in books.target) books.target.work.journal
      → IsHistoryOfBoth old new books.source.work.journal
  of_both law told told_new legal legal_new =
      let own : IsLegal (directory_of old) books.source.work.journal = subst (λ (u : Users). IsLegal (directory_of u) books.source.work.journal) whole.books_of.source legal in
      let moved : IsLegal (directory_of new) (moved_entries old new books.source.work.journal) =
      subst (λ (u : Users). IsLegal (directory_of u) (moved_entries old new books.source.work.journal)) whole.books_of.target (subst (λ (es : List Entry). IsLegal (directory_in books.target) es) whole.moved legal_new) in
      record {
        recorded = whole.recorded;
        legal = own;
        legal_moved = moved;
        homes = same_homes law old new all told told_new books.source.work.journal (homes_within old books.source.work.journal whole.recorded) own moved;
      }

-- The ends

-- where the file was not begun, it had no octets or is as it was
failed_over : (first last : Option Past) → FailsTold first last → WritesOverNothing first last
failed_over None last none = inr none
failed_over (Some first) last (past, is, inl same) = inr (is ∙ ap (λ (p : Past). Some p) same)
failed_over (Some first) last (past, is, inr (empty, tried)) = inl (sym (ap length empty))

module _ {D : Type 0} (past : D → Option Past) (faults : D → ℕ) (old new : Users) (from to from_after : D) where
  pub over_nothing : (entries : List Entry) (to_after : D) (end : Migrated) → IsWrittenAs past faults new entries to to_after end → WritesOverNothing (past to) (past to_after)
  over_nothing entries to_after migrated.Done is = inl is.0
  over_nothing entries to_after migrated.NewFailed is = inl is.0
  over_nothing entries to_after migrated.NotBegun is = failed_over (past to) (past to_after) is.1
  over_nothing entries to_after (migrated.NotEmpty count) is = inr is.2
  over_nothing entries to_after migrated.NoMemory is = inr is
  over_nothing entries to_after migrated.OldFailed is = absurd is
  over_nothing entries to_after (migrated.Gone principal) is = absurd is
  over_nothing entries to_after (migrated.Refused place) is = absurd is
  over_nothing entries to_after (migrated.Mismatch place kept made) is = absurd is
  over_nothing entries to_after (migrated.Declined place kept made) is = absurd is

  leaves_moved : (entries : List Entry) → IfSome (past from) (λ p. StandsFor old entries (reading p)) → (first last : Past) → LeavesNoneOrAll new (moved_entries old new entries) first last → LeavesNoneOrWhole old new (past from) first last
  leaves_moved entries stood first last leaves = weaker (IsNoneOrAll new (moved_entries old new entries)) (IsNoneOrWhole old new (past from)) (with_blank first) last (λ image left. by image left) leaves
    where
      by : (image : List ℕ) → IsNoneOrAll new (moved_entries old new entries) image → IsNoneOrWhole old new (past from) image
      by image (inl none) = inl none
      by image (inr stands) = inr (entries, stood, stands)

  each_leaves : (entries : List Entry) → IfSome (past from) (λ p. StandsFor old entries (reading p)) → (first last : Option Past) → Since (LeavesNoneOrAll new (moved_entries old new entries)) first last → Since (LeavesNoneOrWhole old new (past from)) first last
  each_leaves entries stood None last none = none
  each_leaves entries stood (Some first) last (told, is, leaves) = (told, is, leaves_moved entries stood first told leaves)

  -- what was read, and then written
  pub stops : (books : Books) (to_after : D) (end : Migrated) → IsReadFrom past faults old new from books from_after (Ok tt) → IsWrittenAs past faults new (moved_entries old new books.source.work.journal) to to_after end
      → StopsLeave old new (past from) (past to) (past to_after) end
  stops books to_after migrated.Done read is = each_leaves books.source.work.journal read.stood (past to) (past to_after) is.1
  stops books to_after migrated.NewFailed read is = each_leaves books.source.work.journal read.stood (past to) (past to_after) is.1
  stops books to_after migrated.NotBegun read is = is.1
  stops books to_after (migrated.NotEmpty count) read is = is.2
  stops books to_after migrated.NoMemory read is = is
  stops books to_after migrated.OldFailed read is = absurd is
  stops books to_after (migrated.Gone principal) read is = absurd is
  stops books to_after (migrated.Refused place) read is = absurd is
  stops books to_after (migrated.Mismatch place kept made) read is = absurd is
  stops books to_after (migrated.Declined place kept made) read is = absurd is

  -- what was not read to its end
  pub unread_stops : (books : Books) (told : Option Past) (end : Migrated) → IsReadFrom past faults old new from books from_after (Err end) → StopsLeave old new (past from) told told end
  unread_stops books told migrated.Done is = absurd is
  unread_stops books told migrated.NewFailed is = absurd is
  unread_stops books told migrated.NotBegun is = absurd is
  unread_stops books told (migrated.NotEmpty count) is = absurd is
  unread_stops books told migrated.NoMemory is = refl
  unread_stops books told migrated.OldFailed is = refl
  unread_stops books told (migrated.Gone principal) is = absurd is
  unread_stops books told (migrated.Refused place) is = refl
  unread_stops books told (migrated.Mismatch place kept made) is = refl
  unread_stops books told (migrated.Declined place kept made) is = refl
