-- What a desk tells in a turn, by its journal before and after; and what is answered from a look at it.
use Rattle.std.proofs.Common.{◌≡◌, ◌≢◌, ℕ, ◌⊎◌, inl, inr, List, [], ◌∷◌, ◌++◌, refl, sym, ap, subst, ◌∙◌, Bool, true, false, Some, length}
use Rattle.std.specs.List.{AllByRecursion}
use Rattle.std.proofs.lemmas.List.{append-nil}
use Rattle.std.proofs.lemmas.Bool.Decides.{eqb_tells}
use Rattle.std.proofs.Math.Dec.{eqb}
use Rattle.turn_lock.specs.Journals.{IsFollowedByOthers, IsFollowedByOwn}
use Rattle.turn_lock.specs.Passes.{PassState}
use Rattle.turn_lock.proofs.Histories.{all_as}
use Rattle.cal_model.specs.declared.reply.Reply.{Reply as ReplyData}
use Rattle.cal_model.specs.declared.request.Event.{Event}
use Rattle.cal_model.specs.History.Journal.{Entry}
use Rattle.cal_model.specs.Replies.BareReplies.{bare_reply}
use Rattle.cal_model.specs.Serving.EventReplies.{reply_to}
use Rattle.cal_model.specs.Serving.Outcomes.{is_reading}
use Rattle.cal_model.specs.Sight.LookingAlike.{LookAlike}
use Rattle.cal_model.specs.State.ServerState.{Directory, ServerState, directory_of}
use Rattle.cal_model.specs.Users.UsersFile.{Users}
use Rattle.cal_book.specs.Cores.{Core, directory_in, state_in}
use Rattle.cal_book.specs.Desks.{IfReply, WhereBroken, IsLeftBroken}
use Rattle.cal_book.specs.EventSteps.{ReadingsEnterNothing, entries_made, journal_after, state_behind, work_after}
use Rattle.cal_book.specs.Looks.{Sight, IsLookAt, look_directory, look_state}
use Rattle.cal_book.specs.declared.desk.Told.{Told}
use Rattle.cal_book.specs.declared.desk.Told.TheVariants.{Reply, Broken}
use Rattle.cal_session.specs.AskedTurns.{AskedAt, IsReplied, IsTold}
use Rattle.cal_session.proofs.TurnLaws.{own_made}

-- an answer by the book's clauses is one by the journal
pub told_by_journal : {X : Type 0} (R S : Type 0) (old new : Core) (event : Event) (told : Told X) (was_broken : Bool)
    → IfReply told (λ reply. reply.status ≢ 503 → reply ≡ reply_to (directory_in old) (state_in old) event)
    → IfReply told (λ reply. reply.status ≢ 503 → new.work ≡ work_after old.users event old.work)
    → IfReply told (λ reply. reply.status ≡ 503 → (reply ≡ bare_reply 503) × (new.work ≡ old.work))
    → IfReply told (λ reply. is_reading event.request.method ≡ true → reply.status ≢ 503 → (other : ServerState) → LookAlike (directory_in old) (state_in old) other event.who → reply ≡ reply_to (directory_in old) other event)
    → WhereBroken told (was_broken ≡ false → R × IsLeftBroken old event new) → (was_broken ≡ true → S × (new ≡ old))
    → IsTold old.users old.work.journal event told new.work.journal
told_by_journal R S old new event (Reply reply) was_broken is work busy alike left kept = record {
  answered = λ h. (is h, ap (λ w. w.journal) (work h));
  busy = λ h. ((busy h).0, ap (λ w. w.journal) (busy h).1);
  alike = alike;
}
told_by_journal R S old new event (Broken fault) true is work busy alike left kept = inl (ap (λ (core : Core). core.work.journal) (kept refl).1)
told_by_journal R S old new event (Broken fault) false is work busy alike left kept = by_left (left refl).1
  where
    by_left : IsLeftBroken old event new → (new.work.journal ≡ old.work.journal) ⊎ (new.work.journal ≡ journal_after old.users event old.work.journal)
    by_left (inl same) = inl (ap (λ w. w.journal) same)
    by_left (inr made) = inr (ap (λ w. w.journal) made.0)

module _ (author : Entry → ℕ) (law : (e : Entry) → author e ≡ e.session) where
  made_own : (users : Users) (journal : List Entry) (event : Event) (number : ℕ) → event.session ≡ number → AllByRecursion (λ e. author e ≡ number) (entries_made users (state_behind users journal) event)
  made_own users journal event number same =
      all_as (λ (e : Entry). e.session ≡ event.session) (λ (e : Entry). author e ≡ number) (entries_made users (state_behind users journal) event) (λ e h. law e ∙ (h ∙ same)) (own_made users (state_behind users journal) event)

  -- so what a turn adds bears the session's number
  pub told_own : {X : Type 0} (users : Users) (journal : List Entry) (event : Event) (told : Told X) (number : ℕ) (after : List Entry) → event.session ≡ number → IsTold users journal event told after → IsFollowedByOwn author number journal after
  told_own users journal event (Reply reply) number after same t = by_status (eqb_tells reply.status 503)
    where
      by_status : ((eqb reply.status 503 ≡ true) × (reply.status ≡ 503)) ⊎ ((eqb reply.status 503 ≡ false) × (reply.status ≢ 503)) → IsFollowedByOwn author number journal after
      by_status (inl busy) = ([], (t.busy busy.1).1 ∙ sym (append-nil journal), tt)
      by_status (inr other) = (entries_made users (state_behind users journal) event, (t.answered other.1).1, made_own users journal event number same)
  told_own users journal event (Broken fault) number after same (inl kept) = ([], kept ∙ sym (append-nil journal), tt)
  told_own users journal event (Broken fault) number after same (inr made) = (entries_made users (state_behind users journal) event, made, made_own users journal event number same)

-- What a pass adds where the journal is as before
pub own_none : (author : Entry → ℕ) (number : ℕ) (old new : List Entry) → new ≡ old → IsFollowedByOwn author number old new
own_none author number old new same = ([], same ∙ sym (append-nil old), tt)

-- Answers from a look

-- what is answered from a look is the reply of a turn at the book of which it was taken
pub told_by_look : ReadingsEnterNothing → (core : Core) (event : Event) (look : Sight) (reply : ReplyData) → IsLookAt core event look
    → (reply.status ≢ 503 → reply ≡ reply_to (look_directory look) (look_state look) event)
    → (reply.status ≡ 503 → reply ≡ bare_reply 503)
    → (reply.status ≢ 503 → (other : ServerState) → LookAlike (look_directory look) (look_state look) other event.who → reply ≡ reply_to (look_directory look) other event)
    → IsReplied core.users core.work.journal event reply core.work.journal
told_by_look enters core event look reply at is busy alike = record {
  answered = λ h. (shown (λ d s. reply ≡ reply_to d s event) (is h), nothing);
  busy = λ h. (busy h, refl);
  alike = λ reads h other. shown (λ d s. LookAlike d s other event.who → reply ≡ reply_to d other event) (alike h other);
}
  where
    -- a fact of the users and of the state that are shown is one of the book's
    shown : (fact : Directory → ServerState → Type 0) → fact (look_directory look) (look_state look) → fact (directory_in core) (state_in core)
    shown fact h = subst (λ d. fact d (state_in core)) (ap directory_of at.users) (subst (λ s. fact (look_directory look) s) at.state h)

    nothing : core.work.journal ≡ journal_after core.users event core.work.journal
    nothing = sym (ap (λ more. core.work.journal ++ more) (enters core.users (state_in core) event at.reads) ∙ append-nil core.work.journal)

-- Turns

-- what is told at the journal that a desk has, is told at the one that was taken
pub told_at : {X : Type 0} (event : Event) (told : Told X) (u users : Users) (j journal a after : List Entry) → u ≡ users → j ≡ journal → a ≡ after → IsTold u j event told a → IsTold users journal event told after
told_at event told u users j journal a after same_users same_journal same_after is =
    subst (λ x. IsTold x journal event told after) same_users (subst (λ x. IsTold u x event told after) same_journal (subst (λ x. IsTold u j event told x) same_after is))

pub replied_at : (event : Event) (reply : ReplyData) (u users : Users) (j journal a after : List Entry) → u ≡ users → j ≡ journal → a ≡ after → IsReplied u j event reply a → IsReplied users journal event reply after
replied_at event reply u users j journal a after same_users same_journal same_after is =
    subst (λ x. IsReplied x journal event reply after) same_users (subst (λ x. IsReplied u x event reply after) same_journal (subst (λ x. IsReplied u j event reply x) same_after is))

-- a turn at what the lock gave
pub asked_at : {X : Type 0} (author : Entry → ℕ) (law : (e : Entry) → author e ≡ e.session) (users : Users) (pass : PassState Entry Users) (at : ℕ) (event : Event) (told : Told X) (journal seen : List Entry)
    → IsFollowedByOthers author (pass.number ∷ pass.gone) pass.seen journal → at ≡ length journal → IsTold users journal event told seen → AskedAt users pass at event told seen
asked_at author law users pass at event told journal seen longer place is = record {
  journal = journal;
  later = subst (λ a. IsFollowedByOthers a (pass.number ∷ pass.gone) pass.seen journal) (λ i e. law e i) longer;
  place = place;
  is = is;
}

-- the users that a value has are those of its pass
pub users_same : (base : Users) (users given : Users) → base ≡ users → Some base ≡ Some given → users ≡ given
users_same base users given same is = let e : base ≡ given = cc in sym same ∙ e
