-- The entries of a book are written into a draft, one after another.
use Rattle.std.proofs.Common.{◌≡◌, inl, inr, ℕ, ◌+◌, ◌<◌, ◌≤◌, ◌⊎◌, Bool, true, false, List, [], ◌∷◌, ◌++◌, length, take, get_or, slice_get, Option, Some, None, Result, Ok, Err, IfSome, refl, sym, ◌∙◌, ap, subst}
use Rattle.std.specs.Prelude.{not, is_ok, is_err, pos, zero, suc}
use Rattle.std.specs.List.{AllByRecursion}
use Rattle.std.proofs.lemmas.Option.{slice_get-get_or}
use Rattle.std.proofs.lemmas.List.{take_more}
use Rattle.cal_model.specs.History.Journal.{Entry}
use Rattle.cal_model.specs.State.Changes.{delete_calendar}
use Rattle.cal_model.specs.Users.UsersFile.{Users}
use Rattle.cal_keeper.specs.declared.principals.PrincipalCounts.{PrincipalCounts}
use Rattle.cal_keeper.specs.Disks.CrashModel.{Past, LeavesOnly}
use Rattle.cal_keeper.specs.Files.Creating.{HasLength}
use Rattle.cal_keeper.specs.Files.DraftLaws.{DraftsAreNoJournals, DraftsGoOn, DraftsAreFinished}
use Rattle.cal_keeper.specs.Files.Drafts.{with_blank, IsDraftOf, BeginsTold, DraftsTold, DraftsTo, IsNoneOrWhole, FinishesTold}
use Rattle.cal_keeper.specs.Files.Opening.{IsNoJournal}
use Rattle.cal_keeper.specs.Files.Payloads.{HasForm}
use Rattle.cal_keeper.specs.Files.Standing.{recorded, IsRecorded}
use Rattle.cal_keeper.specs.Keepers.{DraftState}
use Rattle.cal_keeper.specs.Principals.{counts_of}
use Rattle.journal_migration.specs.Migrations.{IsKeptSomewhere}
use Rattle.journal_migration.specs.Stops.{Since}
use Rattle.journal_migration.specs.Writing.{HasAdded, HasWritten, IsDraftSince, IsDraftSoFar, IsWholeSince, IsWrittenFrom, LeavesNoneOrAll, IsWrittenAs}
use Rattle.journal_migration.specs.declared.migrating.Migrated.{Migrated}
use Rattle.journal_migration.specs.declared.migrating.Migrated.TheVariants as migrated
use Rattle.journal_migration.proofs.OpenLaws.{rose_since}

-- One entry

all_at : (P : Entry → Type 0) (entries : List Entry) (number : ℕ) (entry : Entry) → AllByRecursion P entries → slice_get entries number ≡ Some entry → P entry
all_at P [] number entry all is = absurd cc
all_at P (first ∷ entries) zero entry all is = subst P (some_inj is) all.0 where
  some_inj : Some first ≡ Some entry → first ≡ entry
  some_inj e = cc
all_at P (first ∷ entries) (suc number) entry all is = all_at P entries number entry all.1 is

pub form_at : (users : Users) (entries : List Entry) (number : ℕ) (entry : Entry) (counts : PrincipalCounts) → AllByRecursion (IsRecorded users) entries → slice_get entries number ≡ Some entry → counts ≡ counts_of users → HasForm counts entry
form_at users entries number entry counts all is same = subst (λ (c : PrincipalCounts). HasForm c entry) (sym same) (all_at (IsRecorded users) entries number entry all is).form

err_or_ok : {E : Type 0} (result : Result (Unit {0}) E) → is_err result ≡ not (is_ok result)
err_or_ok (Ok done) = refl
err_or_ok (Err e) = refl

pub written : {D E : Type 0} (past : D → Option Past) (entries : List Entry) (number : ℕ) (entry : Entry) (old new : DraftState D) (result : Result (Unit {0}) E) → slice_get entries number ≡ Some entry
    → DraftsTo past old new entry (is_ok result) → new.principals ≡ old.principals → new.broken ≡ is_err result → HasWritten past (slice_get entries number) old new (is_ok result)
written past entries number entry old new result is drafts principals broken =
    subst (λ (o : Option Entry). HasWritten past o old new (is_ok result)) (sym is) (record { drafts = drafts; principals = principals; broken = broken ∙ err_or_ok result })

pub none_written : {D : Type 0} (past : D → Option Past) (entries : List Entry) (number : ℕ) (old : DraftState D) → slice_get entries number ≡ None → HasWritten past (slice_get entries number) old old true
none_written past entries number old is = subst (λ (o : Option Entry). HasWritten past o old old true) (sym is) (refl, refl)

-- All entries

pub weaker : (P Q : List ℕ → Type 0) (first last : Past) → ((image : List ℕ) → P image → Q image) → LeavesOnly P first last → LeavesOnly Q first last
weaker P Q first last more leaves = record {
  later = leaves.later;
  each = λ image left. more image (leaves.each image left);
  before = λ start image within left. by image (leaves.before start image within left);
}
  where
    by : {X : Type 0} (image : List ℕ) → X ⊎ P image → X ⊎ Q image
    by image (inl x) = inl x
    by image (inr p) = inr (more image p)

own_record : (entry : Entry) → entry.session ≡ 0 → recorded entry ≡ entry
own_record entry none = ap (λ (session : ℕ). record entry { session = session }) (sym none)

module _ {D : Type 0} (past : D → Option Past) (users : Users) where
  pub none_so_far : DraftsAreNoJournals → (entries : List Entry) (begun : DraftState D) → begun.principals ≡ counts_of users → begun.broken ≡ false → IfSome (past begun.disk) (IsDraftOf users [] begun.place)
      → IsDraftSoFar past users (take 0 entries) begun begun
  none_so_far law entries begun principals unbroken drafted = record { principals = principals; unbroken = unbroken; drafted = by (past begun.disk) drafted } where
    by : (told : Option Past) → IfSome told (IsDraftOf users [] begun.place) → Since (IsDraftSince users [] begun.place) told told
    by None is = refl
    by (Some first) is = (first, refl, (is, law users [] begun.place first is))

  module _ (going_on : DraftsGoOn) (entries : List Entry) (begun old new : DraftState D) (so_far : IsDraftSoFar past users entries begun old) (entry : Entry) where
    -- by the past before an entry
    gone_on : (went_through : Bool) (first : Past) → DraftsTo past old new entry went_through → (p : Past) → past old.disk ≡ Some p → IsDraftSince users entries old.place first p
        → (q : Past) × (past new.disk ≡ Some q) × LeavesOnly IsNoJournal first q × (went_through ≡ true → IsDraftOf users (entries ++ recorded entry ∷ []) new.place q)
    gone_on went_through first drafts p is since =
        let told : DraftsTold users entry old.place new.place went_through (Some p) (past new.disk) =
        subst (λ (o : Option Past). DraftsTold users entry old.place new.place went_through o (past new.disk)) is (drafts users (sym so_far.principals)) in (
          told.0,
          told.1,
          going_on first p told.0 since.1 (told.2.any_moment entries since.0),
          λ went. told.2.added went entries since.0,
        )

    no_past : (went_through : Bool) → DraftsTo past old new entry went_through → past old.disk ≡ None → past new.disk ≡ None
    no_past went_through drafts is = subst (λ (o : Option Past). DraftsTold users entry old.place new.place went_through o (past new.disk)) is (drafts users (sym so_far.principals))

    added : IsRecorded users entry → HasAdded past entry old new true → IsDraftSoFar past users (entries ++ entry ∷ []) begun new
    added own is = record { principals = is.principals ∙ so_far.principals; unbroken = is.broken; drafted = by (past begun.disk) so_far.drafted } where
      by : (told : Option Past) → Since (IsDraftSince users entries old.place) told (past old.disk) → Since (IsDraftSince users (entries ++ entry ∷ []) new.place) told (past new.disk)
      by None none = no_past true is.drafts none
      by (Some first) (p, told, since) =
          let now = gone_on true first is.drafts p told since in
          (now.0, now.1, (subst (λ (e : Entry). IsDraftOf users (entries ++ e ∷ []) new.place now.0) (own_record entry own.session) (now.3 refl), now.2))

    failed : (all : List Entry) → DraftsTo past old new entry false → Since (LeavesOnly (IsNoneOrWhole users all)) (past begun.disk) (past new.disk)
    failed all drafts = by (past begun.disk) so_far.drafted where
      by : (told : Option Past) → Since (IsDraftSince users entries old.place) told (past old.disk) → Since (LeavesOnly (IsNoneOrWhole users all)) told (past new.disk)
      by None none = no_past false drafts none
      by (Some first) (p, told, since) =
          let now = gone_on false first drafts p told since in
          (now.0, now.1, weaker IsNoJournal (IsNoneOrWhole users all) first now.0 (λ image none. inl none) now.2)

  module _ (going_on : DraftsGoOn) (entries : List Entry) (all : AllByRecursion (IsRecorded users) entries) (begun old new : DraftState D) (number : ℕ) (within : number < length entries)
      (so_far : IsDraftSoFar past users (take number entries) begun old) where
    abbrev none : Entry
    none = record { session = 0; who = 0; moment = pos 0; change = delete_calendar 0 []; status = 0 }

    abbrev entry : Entry
    entry = get_or entries number none

    there : slice_get entries number ≡ Some entry
    there = slice_get-get_or entries number none within

    pub one_more : (went_through : Bool) → went_through ≡ true → HasWritten past (slice_get entries number) old new went_through → IsDraftSoFar past users (take (number + 1) entries) begun new
    one_more went_through went has =
        let is : HasAdded past entry old new true = subst (λ (b : Bool). HasAdded past entry old new b) went (subst (λ (o : Option Entry). HasWritten past o old new went_through) there has) in
        subst (λ (es : List Entry). IsDraftSoFar past users es begun new) (sym (take_more entries number none within)) (added going_on (take number entries) begun old new so_far entry (all_at (IsRecorded users) entries number entry all there) is)

    pub failed_at : (went_through : Bool) → went_through ≡ false → HasWritten past (slice_get entries number) old new went_through → Since (LeavesOnly (IsNoneOrWhole users entries)) (past begun.disk) (past new.disk)
    failed_at went_through went has =
        let is : HasAdded past entry old new false = subst (λ (b : Bool). HasAdded past entry old new b) went (subst (λ (o : Option Entry). HasWritten past o old new went_through) there has) in
        failed going_on (take number entries) begun old new so_far entry entries is.drafts

  -- The end

  module _ (finished : DraftsAreFinished) (entries : List Entry) (begun draft : DraftState D) (so_far : IsDraftSoFar past users entries begun draft) (left : D) where
    sealed : (went_through : Bool) (first : Past) → ((u : Users) → FinishesTold u draft.place went_through (past draft.disk) (past left)) → (p : Past) → past draft.disk ≡ Some p → IsDraftSince users entries draft.place first p
        → (q : Past) × (past left ≡ Some q) × LeavesOnly (IsNoneOrWhole users entries) first q × (went_through ≡ true → IsKeptSomewhere users entries q)
    sealed went_through first finishes p is since =
        let told : FinishesTold users draft.place went_through (Some p) (past left) = subst (λ (o : Option Past). FinishesTold users draft.place went_through o (past left)) is (finishes users) in (
          told.0,
          told.1,
          finished users entries first p told.0 since.1 (told.2.any_moment entries since.0),
          λ went. (draft.place, told.2.whole went entries since.0),
        )

    no_seal : (went_through : Bool) → ((u : Users) → FinishesTold u draft.place went_through (past draft.disk) (past left)) → past draft.disk ≡ None → past left ≡ None
    no_seal went_through finishes is = subst (λ (o : Option Past). FinishesTold users draft.place went_through o (past left)) is (finishes users)

    pub whole_since : ((u : Users) → FinishesTold u draft.place true (past draft.disk) (past left)) → Since (IsWholeSince users entries) (past begun.disk) (past left)
    whole_since finishes = by (past begun.disk) so_far.drafted where
      by : (told : Option Past) → Since (IsDraftSince users entries draft.place) told (past draft.disk) → Since (IsWholeSince users entries) told (past left)
      by None none = no_seal true finishes none
      by (Some first) (p, told, since) = let now = sealed true first finishes p told since in (now.0, now.1, (now.2, now.3 refl))

    pub unsealed : ((u : Users) → FinishesTold u draft.place false (past draft.disk) (past left)) → Since (LeavesOnly (IsNoneOrWhole users entries)) (past begun.disk) (past left)
    unsealed finishes = by (past begun.disk) so_far.drafted where
      by : (told : Option Past) → Since (IsDraftSince users entries draft.place) told (past draft.disk) → Since (LeavesOnly (IsNoneOrWhole users entries)) told (past left)
      by None none = no_seal false finishes none
      by (Some first) (p, told, since) = let now = sealed false first finishes p told since in (now.0, now.1, now.2)

-- A file that was begun

pub begun_draft : (users : Users) (place : ℕ) (old new : Option Past) → BeginsTold users place old new → IfSome new (IsDraftOf users [] place)
begun_draft users place None new none = subst (λ (o : Option Past). IfSome o (IsDraftOf users [] place)) (sym none) tt
begun_draft users place (Some first) new (past, is, begins) = subst (λ (o : Option Past). IfSome o (IsDraftOf users [] place)) (sym is) begins.drafted

module _ (users : Users) (entries : List Entry) where
  -- since the blank was on the disk
  left_since : DraftsAreFinished → (place : ℕ) (disk begun left : Option Past) → BeginsTold users place disk begun → Since (LeavesOnly (IsNoneOrWhole users entries)) begun left → Since (LeavesNoneOrAll users entries) disk left
  left_since finished place None begun left none leaves = subst (λ (o : Option Past). Since (LeavesOnly (IsNoneOrWhole users entries)) o left) none leaves
  left_since finished place (Some first) begun left (mid, is, begins) leaves =
      let on : Since (LeavesOnly (IsNoneOrWhole users entries)) (Some mid) left = subst (λ (o : Option Past). Since (LeavesOnly (IsNoneOrWhole users entries)) o left) is leaves in
      (on.0, on.1, finished users entries (with_blank first) mid on.0 begins.leaves on.2)

  whole_leaves : (first last : Option Past) → Since (IsWholeSince users entries) first last → Since (LeavesOnly (IsNoneOrWhole users entries)) first last
  whole_leaves None last none = none
  whole_leaves (Some first) last (past, is, whole) = (past, is, whole.0)

  whole_kept : (first last : Option Past) → Since (IsWholeSince users entries) first last → IfSome last (IsKeptSomewhere users entries)
  whole_kept None last none = subst (λ (o : Option Past). IfSome o (IsKeptSomewhere users entries)) (sym none) tt
  whole_kept (Some first) last (past, is, whole) = subst (λ (o : Option Past). IfSome o (IsKeptSomewhere users entries)) (sym is) whole.1

pub written_as : {D : Type 0} (past : D → Option Past) (faults : D → ℕ) → DraftsAreFinished → (users : Users) (entries : List Entry) (disk begun left : D) (place : ℕ) (end : Migrated) → HasLength 0 (past disk) → BeginsTold users place (past disk) (past begun)
    → faults disk ≤ faults begun → faults begun ≤ faults left → IsWrittenFrom past faults users entries begun left end → IsWrittenAs past faults users entries disk left end
written_as past faults finished users entries disk begun left place migrated.Done empty begins first falls is = (
  empty,
  left_since users entries finished place (past disk) (past begun) (past left) begins (whole_leaves users entries (past begun) (past left) is),
  whole_kept users entries (past begun) (past left) is,
)
written_as past faults finished users entries disk begun left place migrated.NewFailed empty begins first falls is =
    (empty, left_since users entries finished place (past disk) (past begun) (past left) begins is.0, rose_since (faults disk) (faults begun) (faults left) first falls is.1)
written_as past faults finished users entries disk begun left place (migrated.Gone principal) empty begins first falls is = absurd is
written_as past faults finished users entries disk begun left place (migrated.Refused at) empty begins first falls is = absurd is
written_as past faults finished users entries disk begun left place (migrated.Mismatch at kept made) empty begins first falls is = absurd is
written_as past faults finished users entries disk begun left place (migrated.Declined at kept made) empty begins first falls is = absurd is
written_as past faults finished users entries disk begun left place (migrated.NotEmpty count) empty begins first falls is = absurd is
written_as past faults finished users entries disk begun left place migrated.OldFailed empty begins first falls is = absurd is
written_as past faults finished users entries disk begun left place migrated.NotBegun empty begins first falls is = absurd is
written_as past faults finished users entries disk begun left place migrated.NoMemory empty begins first falls is = absurd is
