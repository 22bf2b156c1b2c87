-- What a kept book has in its file, call by call.
use Rattle.std.proofs.Common.{◌≡◌, ◌≢◌, ◌⊎◌, inl, inr, ℕ, ◌<◌, ◌+◌, ◌^◌, Bool, true, false, not, IsTrue, List, [], ◌∷◌, ◌++◌, length, map, Option, Some, None, IfSome, slice_get, pos, ◌≤ℤ◌, refl, sym, ◌∙◌, ap, ap₂, subst, arith, length-append}
use Rattle.std.proofs.lemmas.Bool.{false≢true}
use Rattle.std.proofs.lemmas.Bool.Decides.{eqb_tells}
use Rattle.std.proofs.lemmas.List.{append-nil, map-append}
use Rattle.std.proofs.lemmas.Option.{slice_get_past}
use Rattle.std.proofs.Math.Dec.{eqb}
use Rattle.cal_model.specs.declared.reply.Reply.{Reply as ReplyData}
use Rattle.cal_model.specs.declared.request.Event.{Event}
use Rattle.cal_model.specs.History.Claims.{Work}
use Rattle.cal_model.specs.History.Journal.{Entry, entry_of}
use Rattle.cal_model.specs.Requests.BookableRequests.{IsBookable}
use Rattle.cal_model.specs.Serving.Outcomes.{Outcome, accepted, unchanged, outcome}
use Rattle.cal_model.specs.State.Changes.{Change, change_of}
use Rattle.cal_model.specs.Users.UsersFile.{Users}
use Rattle.cal_model.specs.Words.Limits.{last_moment}
use Rattle.cal_keeper.specs.Disks.CrashModel.{Past, found, wrote, synced, MayLeave, moment, LeftSince}
use Rattle.cal_keeper.specs.Files.Appending.{AppendsTold}
use Rattle.cal_keeper.specs.Files.EntryLaws.{AcceptedHasForm}
use Rattle.cal_keeper.specs.Files.Payloads.{HasForm}
use Rattle.cal_keeper.specs.Files.Standing.{recorded, StandsFor, IsKeptFor}
use Rattle.cal_keeper.specs.Keepers.{KeeperState}
use Rattle.cal_keeper.specs.Principals.{counts_of}
use Rattle.cal_keeper.specs.declared.principals.PrincipalCounts.{PrincipalCounts}
use Rattle.cal_book.specs.Cores.{Core, directory_in, state_in}
use Rattle.cal_book.specs.Desks.{IfReply, WhereBroken, IsLeftBroken}
use Rattle.cal_book.specs.EventSteps.{entries_by, entries_made, work_after}
use Rattle.cal_book.specs.declared.desk.Told.{Told}
use Rattle.cal_book.specs.declared.desk.Told.TheVariants.{Reply, Broken}
use Rattle.cal_session.specs.KeptBooks.{StandsForAllOrButLast, LeavesAllOrButLast, IsKeptOf}
use Rattle.cal_session.specs.KeptSteps.{HasAppended, HasKept}

-- Calls that leave the journal as it is

pub kept_on : {D : Type 0} (past : D → Option Past) (old new : Core) (keeper : KeeperState D) → IsKeptOf past old keeper → new.users ≡ old.users → new.work.journal ≡ old.work.journal → IsKeptOf past new keeper
kept_on past old new keeper kept users journal = record {
  principals = kept.principals ∙ ap counts_of (sym users);
  records = λ whole. kept.records whole ∙ ap length (sym journal);
  file = λ whole.
      subst (λ (entries : List Entry). IfSome (past keeper.disk) (IsKeptFor new.users (map recorded entries) keeper.place)) (sym journal)
      (subst (λ (u : Users). IfSome (past keeper.disk) (IsKeptFor u (map recorded old.work.journal) keeper.place)) (sym users) (kept.file whole));
  left = λ broken.
      subst (λ (entries : List Entry). IfSome (past keeper.disk) (LeavesAllOrButLast new.users entries)) (sym journal)
      (subst (λ (u : Users). IfSome (past keeper.disk) (LeavesAllOrButLast u old.work.journal)) (sym users) (kept.left broken));
}

-- Requests

-- the entry of an accepted change stands behind the others, and is in the form
pub record IsEntered (old : Core) (event : Event) (new : Core) : Type 0 where
  pub entry : Entry
  pub journal : new.work.journal ≡ old.work.journal ++ entry ∷ []
  pub form : HasForm (counts_of old.users) entry
  pub work : new.work ≡ work_after old.users event old.work
  pub made : entries_made old.users (state_in old) event ≢ []

-- or the journal is as before
abbrev pub HasCome : Core → Event → Core → Type 0
HasCome old event new = (new.work.journal ≡ old.work.journal) ⊎ IsEntered old event new

module _ (old new : Core) (event : Event) where
  abbrev change : Option Change
  change = change_of (directory_in old) event.request

  abbrev made : Outcome
  made = outcome (directory_in old) (state_in old) event

  entries_are : (c : Option Change) (o : Outcome) → change ≡ c → made ≡ o → entries_made old.users (state_in old) event ≡ entries_by event c o
  entries_are c o change_is made_is = ap₂ (entries_by event) change_is made_is

  journal_is : (entries : List Entry) → new.work ≡ work_after old.users event old.work → entries_made old.users (state_in old) event ≡ entries → new.work.journal ≡ old.work.journal ++ entries
  journal_is entries work entries_is = ap (λ (w : Work). w.journal) work ∙ ap (λ (es : List Entry). old.work.journal ++ es) entries_is

  as_before : new.work ≡ work_after old.users event old.work → entries_made old.users (state_in old) event ≡ [] → HasCome old event new
  as_before work none = inl (journal_is [] work none ∙ append-nil old.work.journal)

  not_empty : (entry : Entry) → entries_made old.users (state_in old) event ≡ entry ∷ [] → entries_made old.users (state_in old) event ≢ []
  not_empty entry some = λ none. let same : entry ∷ [] ≡ [] = sym some ∙ none in cc

  pub come : {X : Type 0} (status : ℕ) → AcceptedHasForm → IsBookable old.users event.who event.request → event.request.size < 2 ^ 32 → pos 0 ≤ℤ event.moment → event.moment ≤ℤ pos last_moment
      → (status ≢ 503 → new.work ≡ work_after old.users event old.work) → (status ≡ 503 → X × (new.work ≡ old.work)) → HasCome old event new
  come status law bookable small low high work busy = by_status (eqb_tells status 503)
    where
      by_made : new.work ≡ work_after old.users event old.work → (c : Option Change) (o : Outcome) → change ≡ c → made ≡ o → HasCome old event new
      by_made is None (accepted given after) change_is made_is = as_before is (entries_are None (accepted given after) change_is made_is)
      by_made is None (unchanged reply) change_is made_is = as_before is (entries_are None (unchanged reply) change_is made_is)
      by_made is (Some c) (unchanged reply) change_is made_is = as_before is (entries_are (Some c) (unchanged reply) change_is made_is)
      by_made is (Some c) (accepted given after) change_is made_is =
          let entries_is = entries_are (Some c) (accepted given after) change_is made_is in
          inr (record {
            entry = entry_of event c given;
            journal = journal_is (entry_of event c given ∷ []) is entries_is;
            form = law old.users (state_in old) after event c given bookable small low high change_is made_is;
            work = is;
            made = not_empty (entry_of event c given) entries_is;
          })

      by_status : ((eqb status 503 ≡ true) × (status ≡ 503)) ⊎ ((eqb status 503 ≡ false) × (status ≢ 503)) → HasCome old event new
      by_status (inl is) = inl (ap (λ (w : Work). w.journal) (busy is.1).1)
      by_status (inr other) = by_made (work other.1) change made refl refl

-- What stands at the number of the next entry

past_end : (entries : List Entry) → slice_get entries (length entries) ≡ None
past_end entries = slice_get_past entries (length entries) (omega arith)

pub at_seam : (entries more : List Entry) → slice_get (entries ++ more) (length entries) ≡ slice_get more 0
at_seam [] more = refl
at_seam (entry ∷ entries) more = at_seam entries more

none_new : (old new : Core) → new.work.journal ≡ old.work.journal → slice_get new.work.journal (length old.work.journal) ≡ None
none_new old new same = ap (λ (entries : List Entry). slice_get entries (length old.work.journal)) same ∙ past_end old.work.journal

one_new : (old : Core) (event : Event) (new : Core) (entered : IsEntered old event new) → slice_get new.work.journal (length old.work.journal) ≡ Some entered.entry
one_new old event new entered = ap (λ (entries : List Entry). slice_get entries (length old.work.journal)) entered.journal ∙ at_seam old.work.journal (entered.entry ∷ [])

-- so what is to be appended is in the form
pub new_form : (old : Core) (event : Event) (new : Core) (counts : PrincipalCounts) → counts ≡ counts_of old.users → HasCome old event new → IfSome (slice_get new.work.journal (length old.work.journal)) (HasForm counts)
new_form old event new counts is (inl same) = subst (λ (entry : Option Entry). IfSome entry (HasForm counts)) (sym (none_new old new same)) tt
new_form old event new counts is (inr entered) =
    subst (λ (entry : Option Entry). IfSome entry (HasForm counts)) (sym (one_new old event new entered)) (subst (λ (c : PrincipalCounts). HasForm c entered.entry) (sym is) entered.form)

-- Appending

-- what a crash leaves now it leaves at some moment from any on
left_since : (past : Past) (since : ℕ) (image : List ℕ) → MayLeave past image → LeftSince since past image
left_since (found octets) since image left = left
left_since (wrote before place count octets) since image left = inl left
left_since (synced before) since image left = inl left

module _ (users : Users) (journal : List Entry) (entry : Entry) (place next : ℕ) (ok : Bool) where
  with_new : map recorded (journal ++ entry ∷ []) ≡ map recorded journal ++ recorded entry ∷ []
  with_new = map-append recorded journal (entry ∷ [])

  file_after : (old new : Option Past) → IsTrue ok → IfSome old (IsKeptFor users (map recorded journal) place) → AppendsTold users entry place next ok old new
      → IfSome new (IsKeptFor users (map recorded (journal ++ entry ∷ [])) next)
  file_after None new went kept told = subst (λ (o : Option Past). IfSome o (IsKeptFor users (map recorded (journal ++ entry ∷ [])) next)) (sym told) tt
  file_after (Some old) new went kept told =
      subst (λ (o : Option Past). IfSome o (IsKeptFor users (map recorded (journal ++ entry ∷ [])) next)) (sym told.1)
      (subst (λ (entries : List Entry). IsKeptFor users entries next told.0) (sym with_new) (told.2.acknowledged went (map recorded journal) kept))

  all_or_but_last : (image : List ℕ) → StandsFor users (map recorded journal) image ⊎ StandsFor users (map recorded journal ++ recorded entry ∷ []) image → StandsForAllOrButLast users (journal ++ entry ∷ []) image
  all_or_but_last image (inl without) = inr (journal, entry, refl, without)
  all_or_but_last image (inr all) = inl (subst (λ (entries : List Entry). StandsFor users entries image) (sym with_new) all)

  left_after : (old new : Option Past) → IfSome old (IsKeptFor users (map recorded journal) place) → AppendsTold users entry place next ok old new → IfSome new (LeavesAllOrButLast users (journal ++ entry ∷ []))
  left_after None new kept told = subst (λ (o : Option Past). IfSome o (LeavesAllOrButLast users (journal ++ entry ∷ []))) (sym told) tt
  left_after (Some old) new kept told =
      subst (λ (o : Option Past). IfSome o (LeavesAllOrButLast users (journal ++ entry ∷ []))) (sym told.1)
      (λ image left. all_or_but_last image ((told.2.any_moment (map recorded journal) kept).each image (left_since told.0 (moment old) image left)))

module _ {D : Type 0} (past : D → Option Past) (old : Core) (event : Event) (new : Core) (before after : KeeperState D) where
  kept_entry : IsKeptOf past old before → before.broken ≡ false → new.users ≡ old.users → (entered : IsEntered old event new) → HasAppended past entered.entry before after → IsKeptOf past new after
  kept_entry kept unbroken users entered appended =
      let told = appended.appends old.users (sym kept.principals) in
      let known : IfSome (past before.disk) (IsKeptFor old.users (map recorded old.work.journal) before.place) = kept.file unbroken in
      record {
        principals = appended.principals ∙ kept.principals ∙ ap counts_of (sym users);
        records = λ whole. appended.records whole ∙ ap (λ (n : ℕ). n + 1) (kept.records unbroken) ∙ sym (ap length entered.journal ∙ length-append old.work.journal (entered.entry ∷ []));
        file = λ whole.
            subst (λ (entries : List Entry). IfSome (past after.disk) (IsKeptFor new.users (map recorded entries) after.place)) (sym entered.journal)
            (subst (λ (u : Users). IfSome (past after.disk) (IsKeptFor u (map recorded (old.work.journal ++ entered.entry ∷ [])) after.place)) (sym users)
            (file_after old.users old.work.journal entered.entry before.place after.place (not after.broken) (past before.disk) (past after.disk) (ap not whole) known told));
        left = λ broken.
            subst (λ (entries : List Entry). IfSome (past after.disk) (LeavesAllOrButLast new.users entries)) (sym entered.journal)
            (subst (λ (u : Users). IfSome (past after.disk) (LeavesAllOrButLast u (old.work.journal ++ entered.entry ∷ []))) (sym users)
            (left_after old.users old.work.journal entered.entry before.place after.place (not after.broken) (past before.disk) (past after.disk) known told));
      }

  -- a keeper whose book got no entry is as before
  unmoved : new.work.journal ≡ old.work.journal → HasKept past (slice_get new.work.journal (length old.work.journal)) before after → after ≡ before
  unmoved same kept = subst (λ (entry : Option Entry). HasKept past entry before after) (none_new old new same) kept

  -- a request leaves the book kept
  pub kept_after : IsKeptOf past old before → before.broken ≡ false → new.users ≡ old.users → HasCome old event new → HasKept past (slice_get new.work.journal (length old.work.journal)) before after → IsKeptOf past new after
  kept_after kept unbroken users (inl same) tried = subst (λ (keeper : KeeperState D). IsKeptOf past new keeper) (sym (unmoved same tried)) (kept_on past old new before kept users same)
  kept_after kept unbroken users (inr entered) tried =
      kept_entry kept unbroken users entered (subst (λ (entry : Option Entry). HasKept past entry before after) (one_new old event new entered) tried)

  -- and where the keeper broke, the change was accepted
  pub broken_after : before.broken ≡ false → after.broken ≡ true → HasCome old event new → HasKept past (slice_get new.work.journal (length old.work.journal)) before after → IsLeftBroken old event new
  broken_after unbroken broken (inl same) tried = absurd (false≢true (sym unbroken ∙ sym (ap (λ (keeper : KeeperState D). keeper.broken) (unmoved same tried)) ∙ broken))
  broken_after unbroken broken (inr entered) tried = inr (entered.work, entered.made)

-- What is told

module _ {X : Type 0} (told : Told X) where
  pub of_reply : (fact : ReplyData → Type 0) (reply : ReplyData) → told ≡ Reply reply → fact reply → IfReply told fact
  of_reply fact reply is holds = subst (λ (t : Told X). IfReply t fact) (sym is) holds

  pub of_fault : (fact : ReplyData → Type 0) (fault : X) → told ≡ Broken fault → IfReply told fact
  of_fault fact fault is = subst (λ (t : Told X). IfReply t fact) (sym is) tt

  pub not_broken : (fact : Type 0) (reply : ReplyData) → told ≡ Reply reply → WhereBroken told fact
  not_broken fact reply is = subst (λ (t : Told X). WhereBroken t fact) (sym is) tt

  pub is_broken : (fact : Type 0) (fault : X) → told ≡ Broken fault → fact → WhereBroken told fact
  is_broken fact fault is holds = subst (λ (t : Told X). WhereBroken t fact) (sym is) holds
