-- One turn of the lock in which the desk is asked, and the answer to one request.
-- Given: the users, and what the pass knows before and after.
use Rattle.std.specs.Prelude.{◌≡◌, ◌≢◌, ◌⊎◌, ℕ, true, List, [], ◌∷◌, ◌++◌, length, if◌then◌else◌, Result, Ok, Err, ℤ}
use Rattle.turn_lock.specs.Journals.{IsFollowedByOthers}
use Rattle.turn_lock.specs.Passes.{PassState}
use Rattle.cal_model.specs.declared.reply.Reply.{Reply as ReplyData}
use Rattle.cal_model.specs.declared.request.Event.{Event}
use Rattle.cal_model.specs.declared.wire.WireRequest.{WireRequest}
use Rattle.cal_model.specs.History.Journal.{Entry}
use Rattle.cal_model.specs.Replies.BareReplies.{bare_reply}
use Rattle.cal_model.specs.Requests.AskedRequests.{asked_of}
use Rattle.cal_model.specs.Serving.EventReplies.{reply_to}
use Rattle.cal_model.specs.Serving.Outcomes.{is_reading}
use Rattle.cal_model.specs.Sight.LookingAlike.{LookAlike}
use Rattle.cal_model.specs.State.ServerState.{ServerState, directory_of}
use Rattle.cal_model.specs.Users.UsersFile.{Users}
use Rattle.cal_book.specs.EventSteps.{journal_after, state_behind}
use Rattle.cal_book.specs.declared.desk.Told.{Told}
use Rattle.cal_book.specs.declared.desk.Told.TheVariants.{Reply, Broken}
use Rattle.cal_session.specs.Turns.{Answer, IsAlike, WhereRefused, is_busy, entries_in, reply_in, LooksUp}

-- what a pass has seen was followed by entries of others
abbrev pub IsLater : PassState Entry Users → List Entry → Type 0
IsLater pass journal = IsFollowedByOthers (λ (entry : Entry). entry.session) (pass.number ∷ pass.gone) pass.seen journal

-- The desk was asked at a journal: by its reply the journal is the one behind the event, or as before; a broken desk has one of both.
pub record IsReplied (users : Users) (journal : List Entry) (event : Event) (reply : ReplyData) (after : List Entry) : Type 0 where
  pub answered : reply.status ≢ 503 → (reply ≡ reply_to (directory_of users) (state_behind users journal) event) × (after ≡ journal_after users event journal)
  pub busy : reply.status ≡ 503 → (reply ≡ bare_reply 503) × (after ≡ journal)
  pub alike : is_reading event.request.method ≡ true → reply.status ≢ 503 → (other : ServerState) → LookAlike (directory_of users) (state_behind users journal) other event.who → reply ≡ reply_to (directory_of users) other event

abbrev pub IsTold : {X : Type 0} → Users → List Entry → Event → Told X → List Entry → Type 0
IsTold users journal event (Reply reply) after = IsReplied users journal event reply after
IsTold users journal event (Broken fault) after = (after ≡ journal) ⊎ (after ≡ journal_after users event journal)

-- a turn of a pass, at the journal of so many entries
pub record AskedAt {X : Type 0} (users : Users) (pass : PassState Entry Users) (at : ℕ) (event : Event) (told : Told X) (seen : List Entry) : Type 0 where
  pub journal : List Entry
  pub later : IsLater pass journal
  pub place : at ≡ length journal
  pub is : IsTold users journal event told seen

-- One request was answered: at a journal that the pass has seen then, with or without a turn of the lock. What its user may do and see is that of the state there. A request that is refused as it stands takes no turn, and is answered at what the pass had seen.
pub record AnsweredAt (users : Users) (pass now : PassState Entry Users) (answer : Answer) : Type 0 where
  pub journal : List Entry
  pub later : IsLater pass journal
  pub place : answer.turn.at ≡ length journal
  pub status : answer.turn.status ≡ answer.reply.status
  pub reply : (answer.reply ≡ reply_in users pass.number (state_behind users journal) answer.turn.moment (asked_of users answer.wire)) ⊎ (answer.reply ≡ bare_reply 503)
  pub alike : IsAlike users pass.number (state_behind users journal) answer.turn.moment (asked_of users answer.wire) answer.reply
  pub seen : now.seen ≡ journal ++ (if is_busy answer.reply then [] else entries_in users pass.number (state_behind users journal) answer.turn.moment (asked_of users answer.wire))
  pub looks : LooksUp users pass.looks (answer ∷ []) now.looks
  pub refused_at : WhereRefused (asked_of users answer.wire) (journal ≡ pass.seen)
  pub refused_looks : WhereRefused (asked_of users answer.wire) (now.looks ≡ pass.looks)

-- or the desk broke
pub record BrokeAt (users : Users) (pass now : PassState Entry Users) (wire : WireRequest) (moment : ℤ) : Type 0 where
  pub journal : List Entry
  pub later : IsLater pass journal
  pub kept : (now.seen ≡ journal) ⊎ (now.seen ≡ journal ++ entries_in users pass.number (state_behind users journal) moment (asked_of users wire))
  pub looks : LooksUp users pass.looks [] now.looks

-- the place, the moment and the status of an answer, and its reply
abbrev pub answer_of : WireRequest → ℤ → ℕ × ReplyData → Answer
answer_of wire moment given = record { wire = wire; turn = record { at = given.0; moment = moment; status = given.1.status }; reply = given.1 }

abbrev pub EndsAt : {X : Type 0} → Users → PassState Entry Users → PassState Entry Users → WireRequest → ℤ → Result (ℕ × ReplyData) X → Type 0
EndsAt users pass now wire moment (Ok given) = AnsweredAt users pass now (answer_of wire moment given)
EndsAt users pass now wire moment (Err fault) = BrokeAt users pass now wire moment
