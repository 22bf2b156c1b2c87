-- What the book's reply to a request answers, and what is left of it.
use Rattle.std.proofs.Common.{◌≡◌, ◌≢◌, ℕ, ◌<◌, ◌≤◌, Bool, true, false, List, [], ◌∷◌, length, refl, sym, ap, ap₂, subst, ◌∙◌, inl, inr}
use Rattle.std.specs.Prelude.{ℤ, pos}
use Rattle.std.proofs.lemmas.Bool.{false≢true}
use Rattle.std.proofs.lemmas.Bool.Decides.{eqb_tells}
use Rattle.cal_base.specs.World.Outside.{Rose}
use Rattle.cal_model.specs.declared.reply.Reply.{Reply as ReplyData}
use Rattle.cal_model.specs.declared.request.Event.{Event}
use Rattle.cal_model.specs.declared.request.Request.{Request}
use Rattle.cal_model.specs.declared.wire.WireRequest.{WireRequest}
use Rattle.cal_model.specs.History.Claims.{Work}
use Rattle.cal_model.specs.History.Journal.{replay, IsLegal}
use Rattle.cal_model.specs.Replies.BareReplies.{bare_reply}
use Rattle.cal_model.specs.Replies.Statuses.{reason}
use Rattle.cal_model.specs.Requests.AskedRequests.{Asked, asked, asked_of}
use Rattle.cal_model.specs.Requests.BookableRequests.{IsBookable}
use Rattle.cal_model.specs.Serving.EventReplies.{reply_to}
use Rattle.cal_model.specs.State.ServerState.{ServerState, directory_of}
use Rattle.cal_model.specs.Transcripts.Transcript.{Answer, event_of, answer_to, IsAnswer}
use Rattle.cal_model.specs.Users.UsersFile.{Users}
use Rattle.cal_book.specs.Cores.{Core, state_in}
use Rattle.cal_book.specs.EventSteps.{journal_after, work_after, JournalsFollow}
use Rattle.cal_book.specs.ReplyReasons.{RepliesHaveReasons}
use Rattle.cal_book.specs.Desks.{IfReply, WhereBroken, TellsBroken, IsLeftBroken}
use Rattle.cal_book.specs.declared.desk.Told.{Told}
use Rattle.cal_book.specs.declared.desk.Told.TheVariants.{Reply, Broken}
use Rattle.cal_script.specs.Answering.{GoesOn, IsBookOf, IsToldBy}
use Rattle.cal_script.specs.EnteredRequests.{events_by, EntersSome}
use Rattle.cal_script.proofs.AnsweringLemmas.{rose_since}

-- what the book says of a reply, and of itself after it
pub record IsBooked (users : Users) (work : Work) (connection who moment : ℕ) (request : Request) (reply : ReplyData) (new : Core) : Type 0 where
  pub users_is : new.users ≡ users
  pub replied : reply.status ≢ 503 → reply ≡ reply_to (directory_of users) (replay (directory_of users) work.journal) (event_of connection who moment request)
  pub worked : reply.status ≢ 503 → new.work ≡ work_after users (event_of connection who moment request) work
  pub busy : reply.status ≡ 503 → reply ≡ bare_reply 503
  pub kept : reply.status ≡ 503 → new.work ≡ work

-- the state of a book of these users
pub state_with : (core : Core) (users : Users) → core.users ≡ users → state_in core ≡ replay (directory_of users) core.work.journal
state_with core users e = ap (λ known. replay (directory_of known) core.work.journal) e

in_state : (users : Users) (state other : ServerState) (connection moment : ℕ) (wire : WireRequest) (given : Answer) → state ≡ other
    → IsAnswer users other connection moment wire given → IsAnswer users state connection moment wire given
in_state users state other connection moment wire given e h = subst (λ s. IsAnswer users s connection moment wire given) (sym e) h

pub booked_answer : (users : Users) (work : Work) (connection who moment : ℕ) (wire : WireRequest) (request : Request) (reply : ReplyData) (new : Core)
    → JournalsFollow → IsLegal (directory_of users) work.journal → asked_of users wire ≡ asked who request → IsBookable users who request → IsBooked users work connection who moment request reply new
    → IsAnswer users (replay (directory_of users) work.journal) connection moment wire (record { reply = reply; server = state_in new })
booked_answer users work connection who moment wire request reply new follow legal asks bookable h = elim (eqb_tells reply.status 503) [
  | inl same ↦ inr (ap₂ (λ (r : ReplyData) (s : ServerState). record { reply = r; server = s }) (h.busy same.1)
      (state_with new users h.users_is ∙ ap (λ (w : Work). replay (directory_of users) w.journal) (h.kept same.1)))
  | inr other ↦ inl (ap₂ (λ (r : ReplyData) (s : ServerState). record { reply = r; server = s }) (h.replied other.1)
      (state_with new users h.users_is ∙ (ap (λ (w : Work). replay (directory_of users) w.journal) (h.worked other.1)
      ∙ (follow users work.journal (event_of connection who moment request) legal bookable.size).1))
      ∙ sym (ap (answer_to users (replay (directory_of users) work.journal) connection moment) asks))
]

-- the book goes on by an event: it is as it was, or as the event leaves it
went_nowhere : (users : Users) (event : Event) (old new : Core) → new.work ≡ old.work → GoesOn users (event ∷ []) old new
went_nowhere users event old new same =
    record { out = ap (λ (w : Work). w.out) same; enters = (old.work.journal, inl refl, ap (λ (w : Work). w.journal) same) }

went_on : (users : Users) (event : Event) (old new : Core) → new.work ≡ work_after users event old.work → GoesOn users (event ∷ []) old new
went_on users event old new made =
    record { out = ap (λ (w : Work). w.out) made; enters = (journal_after users event old.work.journal, inr refl, ap (λ (w : Work). w.journal) made) }

booked_goes_on : (users : Users) (old : Core) (connection who moment : ℕ) (request : Request) (reply : ReplyData) (new : Core)
    → IsBooked users old.work connection who moment request reply new → GoesOn users (event_of connection who moment request ∷ []) old new
booked_goes_on users old connection who moment request reply new h = elim (eqb_tells reply.status 503) [
  | inl same ↦ went_nowhere users (event_of connection who moment request) old new (h.kept same.1)
  | inr other ↦ went_on users (event_of connection who moment request) old new (h.worked other.1)
]

pub booked_reason : (users : Users) (work : Work) (connection who moment : ℕ) (request : Request) (reply : ReplyData) (new : Core)
    → RepliesHaveReasons → IsBookable users who request → IsBooked users work connection who moment request reply new → 0 < length (reason reply.status)
booked_reason users work connection who moment request reply new reasons bookable h = elim (eqb_tells reply.status 503) [
  | inl same ↦ subst (λ (r : ReplyData). 0 < length (reason r.status)) (sym (h.busy same.1)) reasons.busy
  | inr other ↦ subst (λ (r : ReplyData). 0 < length (reason r.status)) (sym (h.replied other.1))
      (reasons.answered users (directory_of users) (replay (directory_of users) work.journal) (event_of connection who moment request) bookable)
]

-- a book whose room alone has changed since
pub booked_since : (users : Users) (old mid : Core) (connection who moment : ℕ) (request : Request) (reply : ReplyData) (new : Core)
    → old.users ≡ users → mid.users ≡ old.users → mid.work ≡ old.work → IsBooked mid.users mid.work connection who moment request reply new
    → IsBooked users old.work connection who moment request reply new
booked_since users old mid connection who moment request reply new e f g h =
    subst (λ (known : Users). IsBooked known old.work connection who moment request reply new) (f ∙ e)
    (subst (λ (work : Work). IsBooked mid.users work connection who moment request reply new) g h)

-- what the clauses of a request say, with the moment as the event has it
pub in_time : (mid : Core) (connection who moment : ℕ) (time : ℤ) (request : Request) (reply : ReplyData) (new : Core) → time ≡ pos moment
    → new.users ≡ mid.users
    → (reply.status ≢ 503 → reply ≡ reply_to (directory_of mid.users) (state_in mid) (record { session = connection; who = who; moment = time; request = request }))
    → (reply.status ≢ 503 → new.work ≡ work_after mid.users (record { session = connection; who = who; moment = time; request = request }) mid.work)
    → (reply.status ≡ 503 → (reply ≡ bare_reply 503) × (new.work ≡ mid.work))
    → IsBooked mid.users mid.work connection who moment request reply new
in_time mid connection who moment time request reply new e users replied worked busy = record {
  users_is = users;
  replied = subst (λ (t : ℤ). reply.status ≢ 503 → reply ≡ reply_to (directory_of mid.users) (state_in mid) (record { session = connection; who = who; moment = t; request = request })) e replied;
  worked = subst (λ (t : ℤ). reply.status ≢ 503 → new.work ≡ work_after mid.users (record { session = connection; who = who; moment = t; request = request }) mid.work) e worked;
  busy = λ none. (busy none).0;
  kept = λ none. (busy none).1;
}

-- What the desk told

-- of a book whose room alone has changed since, and with the moment as the event has it
pub told_booked : {X : Type 0} (told : Told X) (users : Users) (old mid new : Core) (connection who moment : ℕ) (time : ℤ) (request : Request) → time ≡ pos moment
    → old.users ≡ users → mid.users ≡ old.users → mid.work ≡ old.work → new.users ≡ mid.users
    → IfReply told (λ reply. reply.status ≢ 503 → reply ≡ reply_to (directory_of mid.users) (state_in mid) (record { session = connection; who = who; moment = time; request = request }))
    → IfReply told (λ reply. reply.status ≢ 503 → new.work ≡ work_after mid.users (record { session = connection; who = who; moment = time; request = request }) mid.work)
    → IfReply told (λ reply. reply.status ≡ 503 → (reply ≡ bare_reply 503) × (new.work ≡ mid.work))
    → IfReply told (λ reply. IsBooked users old.work connection who moment request reply new)
told_booked (Reply reply) users old mid new connection who moment time request e first users_are work_is same replied worked busy =
    booked_since users old mid connection who moment request reply new first users_are work_is (in_time mid connection who moment time request reply new e same replied worked busy)
told_booked (Broken fault) users old mid new connection who moment time request e first users_are work_is same replied worked busy = tt

pub told_answer : {X : Type 0} (told : Told X) (users : Users) (old new : Core) (connection who moment : ℕ) (wire : WireRequest) (request : Request) → JournalsFollow → IsBookOf users old
    → asked_of users wire ≡ asked who request → IsBookable users who request → IfReply told (λ reply. IsBooked users old.work connection who moment request reply new)
    → IfReply told (λ reply. IsAnswer users (state_in old) connection moment wire (record { reply = reply; server = state_in new }))
told_answer (Reply reply) users old new connection who moment wire request follow book asks bookable h =
    in_state users (state_in old) (replay (directory_of users) old.work.journal) connection moment wire _ (state_with old users book.users_are)
    (booked_answer users old.work connection who moment wire request reply new follow book.legal asks bookable h)
told_answer (Broken fault) users old new connection who moment wire request follow book asks bookable h = tt

pub told_reason : {X : Type 0} (told : Told X) (users : Users) (work : Work) (connection who moment : ℕ) (request : Request) (new : Core) → RepliesHaveReasons → IsBookable users who request
    → IfReply told (λ reply. IsBooked users work connection who moment request reply new) → IfReply told (λ reply. 0 < length (reason reply.status))
told_reason (Reply reply) users work connection who moment request new reasons bookable h = booked_reason users work connection who moment request reply new reasons bookable h
told_reason (Broken fault) users work connection who moment request new reasons bookable h = tt

-- as an accepted change leaves it, or as it was
left_on : (old new : Core) (event : Event) → IsLeftBroken old event new → GoesOn old.users (event ∷ []) old new
left_on old new event (inl same) = went_nowhere old.users event old new same
left_on old new event (inr made) = went_on old.users event old new made.0

on_from : (users : Users) (events : List Event) (old mid new : Core) → mid.work ≡ old.work → GoesOn users events mid new → GoesOn users events old new
on_from users events old mid new e h = record {
  out = h.out ∙ ap (λ (w : Work). w.out) e;
  enters = subst (λ (w : Work). EntersSome users events w.journal new.work.journal) e h.enters;
}

-- the desk is broken: its book was left by the event, if it was not broken before
left_by : (users : Users) (old mid new : Core) (event : Event) (rose : Type 0) (broken : Bool) → mid.users ≡ users → mid.work ≡ old.work
    → (broken ≡ false → rose × IsLeftBroken mid event new) → (broken ≡ true → new ≡ mid) → GoesOn users (event ∷ []) old new
left_by users old mid new event rose true e same breaks stays =
    on_from users (event ∷ []) old mid new same (went_nowhere users event mid new (ap (λ (core : Core). core.work) (stays refl)))
left_by users old mid new event rose false e same breaks stays =
    on_from users (event ∷ []) old mid new same (subst (λ (known : Users). GoesOn known (event ∷ []) mid new) e (left_on mid new event (breaks refl).1))

pub told_on : {X : Type 0} (told : Told X) (users : Users) (old mid new : Core) (connection who moment : ℕ) (time : ℤ) (asks : Asked) (request : Request) (rose : Type 0) (broken : Bool) → time ≡ pos moment
    → asks ≡ asked who request → mid.users ≡ users → mid.work ≡ old.work → IfReply told (λ reply. IsBooked users old.work connection who moment request reply new)
    → WhereBroken told (broken ≡ false → rose × IsLeftBroken mid (record { session = connection; who = who; moment = time; request = request }) new) → (broken ≡ true → new ≡ mid)
    → GoesOn users (events_by connection moment asks) old new
told_on (Reply reply) users old mid new connection who moment time asks request rose broken e asks_are known same booked breaks stays =
    subst (λ a. GoesOn users (events_by connection moment a) old new) (sym asks_are) (booked_goes_on users old connection who moment request reply new booked)
told_on (Broken fault) users old mid new connection who moment time asks request rose broken e asks_are known same booked breaks stays =
    subst (λ a. GoesOn users (events_by connection moment a) old new) (sym asks_are)
    (subst (λ (t : ℤ). GoesOn users (record { session = connection; who = who; moment = t; request = request } ∷ []) old new) e
    (left_by users old mid new (record { session = connection; who = who; moment = time; request = request }) rose broken known same breaks stays))

-- whether the desk is broken is what it told
pub told_by : {X : Type 0} (told : Told X) (left : Type 0) (before mid after : Bool) (count counted counted_now : ℕ) → mid ≡ before → count ≤ counted → counted ≤ counted_now
    → TellsBroken told after → WhereBroken told (mid ≡ false → Rose counted counted_now × left) → (mid ≡ true → after ≡ true) → IsToldBy told before count after counted_now
told_by (Reply reply) left before true after count counted counted_now e h k tells breaks stays = absurd (false≢true (sym tells ∙ stays refl))
told_by (Reply reply) left before false after count counted counted_now e h k tells breaks stays = tells ∙ e
told_by (Broken fault) left before mid after count counted counted_now e h k tells breaks stays =
    (tells, λ unbroken. rose_since count counted counted_now h k (breaks (e ∙ unbroken)).0)
