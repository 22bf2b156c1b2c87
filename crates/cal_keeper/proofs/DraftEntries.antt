-- Entries of a journal file that is written whole.
use Rattle.std.proofs.Common.{◌≡◌, inl, inr, ⊎_elim, ℕ, ◌+◌, Bool, true, IsTrue, List, [], ◌∷◌, ◌++◌, length, map, Option, Some, None, IfSome, refl, sym, subst, arith}
use Rattle.std.specs.List.{AllByRecursion}
use Rattle.std.proofs.lemmas.Bool.{false≢true}
use Rattle.std.proofs.lemmas.List.{map-append}
use Rattle.cal_model.specs.History.Journal.{Entry}
use Rattle.cal_model.specs.Users.UsersFile.{Users}
use Rattle.cal_keeper.specs.Disks.CrashModel.{Past, reading, moment, LeavesOnly}
use Rattle.cal_keeper.specs.Files.DraftLaws.{DraftsAreNoJournals, DraftsGoOn, DraftsAreFinished}
use Rattle.cal_keeper.specs.Files.Drafts.{blank, IsDraft, blank_header, BeginsDraft, BeginsTold, FailsTold, DraftsTold, IsNoneOrWhole, FinishesTold}
use Rattle.cal_keeper.specs.Files.Headers.{users_text, header_of}
use Rattle.cal_keeper.specs.Files.Opening.{IsNoJournal}
use Rattle.cal_keeper.specs.Files.Payloads.{long_text, payload_of, HasForm}
use Rattle.cal_keeper.specs.Files.RecordForm.{open_record}
use Rattle.cal_keeper.specs.Files.Standing.{recorded, IsRecorded}
use Rattle.cal_keeper.specs.Principals.{counts_of}
use Rattle.cal_keeper.specs.Steps.Drafting.{LaysBoth, LaysBlank, IsNoneOrFile, Seals}
use Rattle.cal_keeper.specs.Steps.WriteRuns.{PutsText, Puts}
use Rattle.cal_keeper.proofs.Appending.{leaves_more, recorded_form, all_push}
use Rattle.cal_keeper.proofs.Beginning.{no_octets}
use Rattle.cal_keeper.proofs.Commits.{only_now}
use Rattle.cal_keeper.proofs.DraftForms.{blank_is_no_journal, draft_longer, draft_leaves}

-- a draft of no entries
pub begins_told : (users : Users) (text : List ℕ) (place : ℕ) (old new : Option Past) → text ≡ users_text users → place ≡ 20 + length text → IfSome old (λ p. 0 ≡ length (reading p)) → LaysBlank text true old new → BeginsTold users place old new
begins_told users text place None new text_is place_is empty lays = lays
begins_told users text place (Some old) new text_is place_is empty lays = (lays.0, lays.1, by (lays.2 (no_octets (reading old) (sym empty)))) where
  by : LaysBoth text true old lays.0 → BeginsDraft users place old lays.0
  by (inl short) = absurd (false≢true (sym short.0))
  by (inr laid) = record {
    leaves = laid.leaves;
    drafted = record {
      recorded = tt;
      draft =
          subst (λ (xs : List ℕ). IsDraft (blank ++ long_text xs) [] place lays.0) text_is
          (subst (λ (n : ℕ). IsDraft (blank ++ long_text text) [] n lays.0) (sym place_is) (laid.drafted refl));
    };
  }

-- where the length could not be told nothing was done
pub unchanged_fails : (old new : Option Past) → new ≡ old → FailsTold old new
unchanged_fails None new same = same
unchanged_fails (Some old) new same = (old, same, inl refl)

-- an entry that is added to it
pub drafts_told : (users : Users) (entry : Entry) → HasForm (counts_of users) entry → (place next : ℕ) (ok : Bool) (old new : Option Past) → (IsTrue ok → next ≡ place + 5 + length (payload_of entry))
    → Puts place (open_record (payload_of entry)) ok old new → DraftsTold users entry place next ok old new
drafts_told users entry form place next ok None new next_is same = same
drafts_told users entry form place next ok (Some old) new next_is puts = (
  puts.0,
  puts.1,
  record {
    any_moment = λ entries drafted. draft_leaves (long_text (users_text users)) (map payload_of entries) place old drafted.draft (open_record (payload_of entry)) ok puts.0 puts.2;
    added = λ went entries drafted. record {
      recorded = all_push (IsRecorded users) entries (recorded entry) drafted.recorded (recorded_form users entry form);
      draft =
          subst (λ (payloads : List (List ℕ)). IsDraft (blank_header users) payloads next puts.0) (sym (map-append payload_of entries (recorded entry ∷ [])))
          (draft_longer (long_text (users_text users)) (map payload_of entries) place old drafted.draft (payload_of entry) next puts.0 (next_is went)
          (subst (λ (through : Bool). PutsText place (open_record (payload_of entry)) through old puts.0) went puts.2));
    };
  },
)

none_or_whole : (users : Users) (entries : List Entry) → AllByRecursion (IsRecorded users) entries → (image : List ℕ) → IsNoneOrFile (header_of users) (map payload_of entries) image → IsNoneOrWhole users entries image
none_or_whole users entries all image (inl none) = inl none
none_or_whole users entries all image (inr file) = inr (record { recorded = all; file = file })

-- the mark in front of all
pub finishes_told : (users : Users) (place : ℕ) (ok : Bool) (old new : Option Past) → Seals place ok old new → FinishesTold users place ok old new
finishes_told users place ok None new same = same
finishes_told users place ok (Some old) new seals = (
  seals.0,
  seals.1,
  record {
    any_moment = λ entries drafted.
        leaves_more (IsNoneOrFile (header_of users) (map payload_of entries)) (IsNoneOrWhole users entries) old seals.0
        (none_or_whole users entries drafted.recorded) (seals.2.any_moment (long_text (users_text users)) (map payload_of entries) drafted.draft);
    whole = λ went entries drafted. record { recorded = drafted.recorded; kept = seals.2.whole went (long_text (users_text users)) (map payload_of entries) drafted.draft };
  },
)

-- Laws

pub drafts_are_no_journals : DraftsAreNoJournals
drafts_are_no_journals users entries place past drafted = record {
  later = omega arith;
  each = λ image left. blank_is_no_journal image (drafted.draft.stays_blank image (only_now past image left));
  before = λ start image early left. inl left;
}

leaves_join : (P Q : List ℕ → Type 0) (first mid last : Past) → ((image : List ℕ) → P image → Q image) → LeavesOnly P first mid → LeavesOnly Q mid last → LeavesOnly Q first last
leaves_join P Q first mid last more front back = record {
  later = omega (arith, front.later, back.later);
  each = λ image left. ⊎_elim (λ was. more image (front.each image was)) (λ has. has) (back.before (moment first) image front.later left);
  before = λ start image early left. ⊎_elim
      (λ was. ⊎_elim (λ before. inl before) (λ has. inr (more image has)) (front.before start image early was))
      (λ has. inr has)
      (back.before start image (omega (arith, early, front.later)) left);
}

pub drafts_go_on : DraftsGoOn
drafts_go_on first mid last front back = leaves_join IsNoJournal IsNoJournal first mid last (λ image none. none) front back

pub drafts_are_finished : DraftsAreFinished
drafts_are_finished users entries first mid last front back = leaves_join IsNoJournal (IsNoneOrWhole users entries) first mid last (λ image none. inl none) front back
