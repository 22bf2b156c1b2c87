-- Which events of what a connection completes were entered.
use Rattle.std.proofs.Common.{◌≡◌, ℕ, List, [], ◌∷◌, ◌++◌, refl, sym, ap, subst, ◌∙◌, append_assoc, inl, inr, ◌⊎◌}
use Rattle.std.proofs.lemmas.Grind.{flat_map-append}
use Rattle.std.proofs.lemmas.List.{append-nil}
use Rattle.cal_model.specs.declared.request.Event.{Event}
use Rattle.cal_model.specs.History.Journal.{Entry}
use Rattle.cal_model.specs.Transcripts.ConnectionAnswers.{Completed, Completes}
use Rattle.cal_model.specs.Users.UsersFile.{Users}
use Rattle.cal_model.proofs.Transcripts.ConnectionAnswerLaws.{streams_complete, completions_stay}
use Rattle.cal_book.specs.Cores.{Core}
use Rattle.cal_book.specs.EventSteps.{entries_made, journal_after, state_behind}
use Rattle.cal_script.specs.Answering.{GoesOn, GoesOnBy}
use Rattle.cal_script.specs.EnteredRequests.{events_of, events_of_all, EntersSome}
use Rattle.cal_script.specs.Readings.{IsReading, Rests}
use Rattle.cal_script.specs.declared.connections.Connection.{Connection}
use Rattle.cal_script.proofs.ReadingLemmas.{more_to_come}

-- Journals

-- a journal has grown
abbrev pub Grows : List Entry → List Entry → Type 0
Grows before after = (more : List Entry) × (after ≡ before ++ more)

grows_none : (before after : List Entry) → after ≡ before → Grows before after
grows_none before after e = ([], e ∙ sym (append-nil before))

grows_on : (a b c : List Entry) → Grows a b → Grows b c → Grows a c
grows_on a b c (more, e) (rest, f) = (more ++ rest, f ∙ (ap (λ xs. xs ++ rest) e ∙ append_assoc a more rest))

grows_one : (users : Users) (event : Event) (before after : List Entry) → (after ≡ before) ⊎ (after ≡ journal_after users event before) → Grows before after
grows_one users event before after (inl same) = grows_none before after same
grows_one users event before after (inr made) = (entries_made users (state_behind users before) event, made)

-- by entries it grows
pub enters_grows : (users : Users) (events : List Event) (before after : List Entry) → EntersSome users events before after → Grows before after
enters_grows users [] before after h = grows_none before after h
enters_grows users (event ∷ events) before after h =
    grows_on before h.0 after (grows_one users event before h.0 h.1) (enters_grows users events h.0 after h.2)

-- none need be entered
pub enters_none : (users : Users) (events : List Event) (journal : List Entry) → EntersSome users events journal journal
enters_none users [] journal = refl
enters_none users (event ∷ events) journal = (journal, inl refl, enters_none users events journal)

-- some of the first, then some of the others
pub enters_on : (users : Users) (events more : List Event) (a b c : List Entry) → EntersSome users events a b → EntersSome users more b c → EntersSome users (events ++ more) a c
enters_on users [] more a b c h k = subst (λ (journal : List Entry). EntersSome users more journal c) h k
enters_on users (event ∷ events) more a b c h k = (h.0, h.1, enters_on users events more h.0 b c h.2 k)

-- Books that go on

pub goes_on_none : (users : Users) (events : List Event) (book : Core) → GoesOn users events book book
goes_on_none users events book = record { out = refl; enters = enters_none users events book.work.journal }

goes_on : (users : Users) (events more : List Event) (a b c : Core) → GoesOn users events a b → GoesOn users more b c → GoesOn users (events ++ more) a c
goes_on users events more a b c h k =
    record { out = k.out ∙ h.out; enters = enters_on users events more a.work.journal b.work.journal c.work.journal h.enters k.enters }

-- What octets on a connection ask

-- so much of what the stream with the payload completes was asked
pub record HasGoneOn (users : Users) (number moment : ℕ) (stream payload : List ℕ) (connection : Connection) (before now : Core) : Type 0 where
  pub done : List Completed
  pub more : List Completed
  pub before_them : Completes stream done
  pub reading : IsReading (stream ++ payload) (done ++ more) connection
  pub on : GoesOn users (events_of_all users number moment more) before now

pub gone_nowhere : (users : Users) (number moment : ℕ) (stream payload : List ℕ) (before connection : Connection) (book : Core) → Rests stream before
    → ((given : List Completed) → IsReading stream given before → IsReading (stream ++ payload) given connection)
    → HasGoneOn users number moment stream payload connection book book
gone_nowhere users number moment stream payload before connection book rests fed = record {
  done = rests.given;
  more = [];
  before_them = rests.all;
  reading = subst (λ given. IsReading (stream ++ payload) given connection) (sym (append-nil rests.given)) (fed rests.given rests.reading);
  on = goes_on_none users [] book;
}

-- what is due next was asked
pub gone_further : (users : Users) (number moment : ℕ) (stream payload : List ℕ) (connection next : Connection) (completed : Completed) (before now later : Core)
    → HasGoneOn users number moment stream payload connection before now
    → ((given : List Completed) → IsReading (stream ++ payload) given connection → IsReading (stream ++ payload) (given ++ completed ∷ []) next)
    → GoesOn users (events_of users number moment completed) now later
    → HasGoneOn users number moment stream payload next before later
gone_further users number moment stream payload connection next completed before now later gone due on =
    let asked : List Event = events_of_all users number moment gone.more in
    let one : List Event = events_of users number moment completed in
    record {
      done = gone.done;
      more = gone.more ++ completed ∷ [];
      before_them = gone.before_them;
      reading = subst (λ given. IsReading (stream ++ payload) given next) (append_assoc gone.done gone.more (completed ∷ [])) (due (gone.done ++ gone.more) gone.reading);
      on = subst (λ events. GoesOn users events before later)
          (ap (λ events. asked ++ events) (sym (append-nil one)) ∙ sym (flat_map-append (events_of users number moment) gone.more (completed ∷ [])))
          (goes_on users asked one before now later gone.on on);
    }

-- what comes behind is not entered
gone_to_end : (users : Users) (number moment : ℕ) (stream payload : List ℕ) (done more rest : List Completed) (before now : Core)
    → Completes stream done → Completes (stream ++ payload) (done ++ (more ++ rest)) → GoesOn users (events_of_all users number moment more) before now
    → GoesOnBy users number moment stream payload before now
gone_to_end users number moment stream payload done more rest before now before_them with_them on = (
  events_of_all users number moment (more ++ rest),
  record { done = done; more = more ++ rest; before_them = before_them; with_them = with_them; events_are = refl },
  subst (λ events. GoesOn users events before now) (sym (flat_map-append (events_of users number moment) more rest))
      (goes_on users (events_of_all users number moment more) (events_of_all users number moment rest) before now now on (goes_on_none users (events_of_all users number moment rest) now)),
)

pub gone_so_far : (users : Users) (number moment : ℕ) (stream payload : List ℕ) (connection : Connection) (before now : Core)
    → HasGoneOn users number moment stream payload connection before now → GoesOnBy users number moment stream payload before now
gone_so_far users number moment stream payload connection before now gone =
    let rest = more_to_come (stream ++ payload) (gone.done ++ gone.more) connection gone.reading in
    gone_to_end users number moment stream payload gone.done gone.more rest.0 before now gone.before_them
    (subst (Completes (stream ++ payload)) (append_assoc gone.done gone.more rest.0) rest.1) gone.on

-- the octets were not taken
pub gone_without : (users : Users) (number moment : ℕ) (stream payload : List ℕ) (connection : Connection) (book : Core) → Rests stream connection
    → GoesOnBy users number moment stream payload book book
gone_without users number moment stream payload connection book rests =
    let next = streams_complete (stream ++ payload) in
    let more = completions_stay stream payload rests.given next.0 rests.all next.1 in
    gone_to_end users number moment stream payload rests.given [] more.0 book book rests.all (subst (Completes (stream ++ payload)) more.1 next.1) (goes_on_none users [] book)
