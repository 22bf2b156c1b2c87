-- Histories stay in step: at the start, and with each entry that comes next.
use Rattle.std.proofs.Common.{◌≡◌, ℕ, List, [], ◌∷◌, ◌++◌, length, refl, sym, ap, ◌∙◌, subst}
use Rattle.std.proofs.lemmas.List.Elements.{All-nil, All-cons, All-append}
use Rattle.cal_model.specs.State.ServerState.{directory_of}
use Rattle.cal_model.specs.State.Changes.{effect}
use Rattle.cal_model.specs.State.SoundStates.{IsSoundChange}
use Rattle.cal_model.specs.Users.UsersFile.{Users}
use Rattle.cal_model.specs.Serving.EventReplies.{state_after}
use Rattle.cal_model.specs.History.Journal.{Entry, asked, replay, IsAcceptedAt}
use Rattle.cal_model.specs.History.KeptChanges.{IsAcceptable}
use Rattle.cal_model.specs.History.Origins.{origins_after, AreLive}
use Rattle.cal_model.proofs.History.JournalLaws.{push-accepted}
use Rattle.cal_model.proofs.History.OriginLaws.{AreLive-push}
use Rattle.cal_journal.proofs.OwnChanges.{asked_is_own, state_after-effect}
use Rattle.collections.specs.Kept.{Kept as KeptStore, state_of, users_of, origins_of}
use Rattle.cal_book.specs.Keeping.KeptHistories.{IsInStep, IsNext}

-- the change of an entry that comes next may be made
pub is_acceptable : (users : Users) (store : KeptStore) (journal : List Entry) (entry : Entry) → IsInStep users store journal
    → IsNext (directory_of users) (state_of store) entry → IsAcceptable (users_of store) (state_of store) entry.change
is_acceptable users store journal entry step next =
    subst (λ directory. IsAcceptable directory (state_of store) entry.change) (sym step.same) (record {
      entry = entry;
      entry_is = refl;
      asked_is = asked_is_own (directory_of users) (state_of store) entry step.told next.accepted;
      accepted_is = next.accepted;
    })

pub is_sound : (users : Users) (store : KeptStore) (journal : List Entry) (entry : Entry) → IsInStep users store journal
    → IsNext (directory_of users) (state_of store) entry → IsSoundChange (users_of store) entry.change
is_sound users store journal entry step next = subst (λ directory. IsSoundChange directory entry.change) (sym step.same) next.sound

-- with it the history is in step again
pub one_more : (users : Users) (before after : KeptStore) (journal : List Entry) (entry : Entry) → IsInStep users before journal
    → IsNext (directory_of users) (state_of before) entry
    → users_of after ≡ users_of before → state_of after ≡ effect entry.change (state_of before)
    → ((home : ℕ) (calendar object : List ℕ) → origins_of after home calendar object ≡ origins_after entry.change (length journal) (origins_of before) home calendar object)
    → IsInStep users after (journal ++ entry ∷ [])
one_more users before after journal entry step next same made moved =
    let directory = directory_of users in
    let here : IsAcceptedAt directory (replay directory journal) entry = subst (λ state. IsAcceptedAt directory state entry) step.state_is next.accepted in
    let pushed = push-accepted directory journal entry (state_after directory (replay directory journal) (asked directory entry)) step.legal here in
    record {
      same = same ∙ step.same;
      told = step.told;
      legal = pushed.0;
      sound =
          All-append (λ (e : Entry). IsSoundChange directory e.change) journal (entry ∷ []) step.sound
          (All-cons (λ (e : Entry). IsSoundChange directory e.change) entry [] next.sound (All-nil (λ (e : Entry). IsSoundChange directory e.change)));
      state_is = made ∙ ap (effect entry.change) step.state_is ∙ sym (state_after-effect directory (replay directory journal) entry step.told here) ∙ sym pushed.1;
      live =
          subst (AreLive (journal ++ entry ∷ [])) (λ i home calendar object. sym (moved home calendar object) i)
          (AreLive-push journal entry (origins_of before) step.live);
    }
