-- An entry that is brought to a kept file.
use Rattle.std.proofs.Common.{◌≡◌, inl, inr, ⊎_elim, ℕ, ◌+◌, Bool, IsTrue, List, [], ◌∷◌, ◌++◌, length, map, Option, Some, None, refl, sym, subst}
use Rattle.std.specs.List.{AllByRecursion}
use Rattle.std.proofs.lemmas.List.{map-append}
use Rattle.cal_model.specs.History.Journal.{Entry}
use Rattle.cal_model.specs.Users.UsersFile.{Users}
use Rattle.cal_keeper.specs.Disks.CrashModel.{Past, LeavesOnly}
use Rattle.cal_keeper.specs.Files.Headers.{header_of}
use Rattle.cal_keeper.specs.Files.Payloads.{payload_of, HasForm}
use Rattle.cal_keeper.specs.Files.RecordForm.{IsFile, IsKept}
use Rattle.cal_keeper.specs.Steps.Committing.{IsWithOrWithout, CommitsRecord, Commits}
use Rattle.cal_keeper.specs.Files.Standing.{recorded, IsRecorded}
use Rattle.cal_keeper.specs.Files.Appending.{StandsWithOrWithout, Appends, AppendsTold}
use Rattle.cal_keeper.specs.Principals.{counts_of}

-- what has one property has another
pub leaves_more : (P Q : List ℕ → Type 0) (old new : Past) → ((image : List ℕ) → P image → Q image) → LeavesOnly P old new → LeavesOnly Q old new
leaves_more P Q old new more leaves = record {
  later = leaves.later;
  each = λ image left. more image (leaves.each image left);
  before = λ start image le left. ⊎_elim (λ was. inl was) (λ has. inr (more image has)) (leaves.before start image le left);
}

-- a record of one session is in the form of another
pub recorded_form : (users : Users) (entry : Entry) → HasForm (counts_of users) entry → IsRecorded users (recorded entry)
recorded_form users entry form = record {
  session = refl;
  form = record {
    who = form.who;
    home = form.home;
    moment = form.moment;
    to_9999 = form.to_9999;
    status = form.status;
    calendar = form.calendar;
    change = form.change;
    short = form.short;
  };
}

pub all_push : (P : Entry → Type 0) (entries : List Entry) (entry : Entry) → AllByRecursion P entries → P entry → AllByRecursion P (entries ++ entry ∷ [])
all_push P [] entry all one = (one, tt)
all_push P (first ∷ entries) entry all one = (all.0, all_push P entries entry all.1 one)

module _ (users : Users) (entry : Entry) (form : HasForm (counts_of users) entry) where
  payloads_are : (entries : List Entry) → map payload_of entries ++ payload_of entry ∷ [] ≡ map payload_of (entries ++ recorded entry ∷ [])
  payloads_are entries = sym (map-append payload_of entries (recorded entry ∷ []))

  stands : (entries : List Entry) → AllByRecursion (IsRecorded users) entries → (image : List ℕ) → IsWithOrWithout (header_of users) (map payload_of entries) (payload_of entry) image
      → StandsWithOrWithout users entries (recorded entry) image
  stands entries all image (inl file) = inl (record { recorded = all; file = file })
  stands entries all image (inr file) = inr (record {
    recorded = all_push (IsRecorded users) entries (recorded entry) all (recorded_form users entry form);
    file = subst (λ (payloads : List (List ℕ)). IsFile (header_of users) payloads image) (payloads_are entries) file;
  })

  appended : (place next : ℕ) (ok : Bool) (old new : Past) → (IsTrue ok → next ≡ place + 5 + length (payload_of entry)) → CommitsRecord place (payload_of entry) ok old new
      → Appends users entry place next ok old new
  appended place next ok old new next_is commits = record {
    any_moment = λ entries kept.
        leaves_more (IsWithOrWithout (header_of users) (map payload_of entries) (payload_of entry)) (StandsWithOrWithout users entries (recorded entry)) old new
        (stands entries kept.recorded) (commits.any_moment (header_of users) (map payload_of entries) kept.kept);
    acknowledged = λ went entries kept. record {
      recorded = all_push (IsRecorded users) entries (recorded entry) kept.recorded (recorded_form users entry form);
      kept =
          subst (λ (at : ℕ). IsKept (header_of users) (map payload_of (entries ++ recorded entry ∷ [])) at new) (sym (next_is went))
          (subst (λ (payloads : List (List ℕ)). IsKept (header_of users) payloads (place + 5 + length (payload_of entry)) new) (payloads_are entries)
          (commits.acknowledged went (header_of users) (map payload_of entries) kept.kept));
    };
  }

  pub appends_told : (place next : ℕ) (ok : Bool) (old new : Option Past) → (IsTrue ok → next ≡ place + 5 + length (payload_of entry)) → Commits place (payload_of entry) ok old new
      → AppendsTold users entry place next ok old new
  appends_told place next ok None new next_is same = same
  appends_told place next ok (Some old) new next_is commits = (commits.0, commits.1, appended place next ok old commits.0 next_is commits.2)
