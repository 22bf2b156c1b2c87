-- What an event makes of the journal, by its outcome.
use Rattle.std.proofs.Common.{◌≡◌, ◌≢◌, ℕ, Bool, true, false, List, [], ◌∷◌, ◌++◌, cond, Option, Some, None, refl, sym, ap, ◌∙◌, subst}
use Rattle.std.specs.Prelude.{is_some, ◌==◌, ℤ}
use Rattle.std.specs.List.{AllByRecursion}
use Rattle.std.proofs.lemmas.Bool.{false≢true, eqb-false}
use Rattle.std.proofs.lemmas.List.{append-nil}
use Rattle.std.proofs.lemmas.List.Elements.{All-contains, All-from_recursion}
use Rattle.cal_model.specs.declared.piece.Piece.{Piece}
use Rattle.cal_model.specs.declared.reply.Reply.{Reply}
use Rattle.cal_model.specs.declared.reply.Refusal.{Refusal}
use Rattle.cal_model.specs.declared.request.Content.{Content}
use Rattle.cal_model.specs.declared.request.Content.TheVariants as content
use Rattle.cal_model.specs.declared.request.Event.{Event}
use Rattle.cal_model.specs.declared.request.Method.{Method}
use Rattle.cal_model.specs.declared.request.Method.TheVariants.{Options, Get, Head, Put, Delete, Propfind, Proppatch, Report, Mkcalendar, Acl}
use Rattle.cal_model.specs.History.Claims.{Work}
use Rattle.cal_model.specs.History.Journal.{Entry, entry_of, IsLegal}
use Rattle.cal_model.specs.History.RightPieces.{IsRight, live_pieces}
use Rattle.cal_model.specs.Objects.ObjectReading.{first_there}
use Rattle.cal_model.specs.Requests.MethodContents.{Suits, refusals_of, own_refusals}
use Rattle.cal_model.specs.Serving.EventReplies.{state_of, state_after}
use Rattle.cal_model.specs.Serving.Outcomes.{Outcome, accepted, unchanged, outcome, outcome_where, is_reading, rows_of_change, changed, scene_by}
use Rattle.cal_model.specs.Serving.ServingLaws.{IsNoWant}
use Rattle.cal_model.specs.Sight.Views.{whole_sight}
use Rattle.cal_model.specs.State.Changes.{Change, change_of}
use Rattle.cal_model.specs.State.ServerState.{Directory, ServerState, directory_of}
use Rattle.cal_model.specs.Users.UsersFile.{Users}
use Rattle.cal_model.proofs.History.EntryLaws.{accepted_keeps_legal}
use Rattle.cal_model.proofs.History.ReplayLaws.{accepted-rows}
use Rattle.cal_model.proofs.Sight.LookingAlikeLaws.{outcome-reading}
use Rattle.piece_claims.specs.Boards.{Board}
use Rattle.cal_book.specs.UpToDate.{work_with}
use Rattle.cal_book.specs.EventSteps.{entries_by, entries_made, journal_after, state_behind, stepped, JournalsFollow, ReadingsEnterNothing}

-- Nothing is entered where an event leaves the state as it is

entries-none : (event : Event) (asked : Option Change) (reply : Reply) → entries_by event asked (unchanged reply) ≡ []
entries-none event None reply = refl
entries-none event (Some change) reply = refl

pub entries-unchanged : (users : Users) (state : ServerState) (event : Event) (reply : Reply) → outcome (directory_of users) state event ≡ unchanged reply → entries_made users state event ≡ []
entries-unchanged users state event reply e =
    ap (entries_by event (change_of (directory_of users) event.request)) e ∙ entries-none event (change_of (directory_of users) event.request) reply

-- so a request that only reads enters nothing
pub readings-enter_nothing : ReadingsEnterNothing
readings-enter_nothing users state event reads = entries-unchanged users state event _ (outcome-reading (directory_of users) state event reads)

-- one entry is, where it is accepted
pub entries-accepted : (users : Users) (state after : ServerState) (event : Event) (status : ℕ) (change : Change) → change_of (directory_of users) event.request ≡ Some change
    → outcome (directory_of users) state event ≡ accepted status after → entries_made users state event ≡ entry_of event change status ∷ []
entries-accepted users state after event status change asks e =
    ap (λ o. entries_by event o (outcome (directory_of users) state event)) asks ∙ ap (entries_by event (Some change)) e

-- Pieces that are right stay, where nothing is entered

live_pieces-right : (journal : List Entry) (pieces : List Piece) → AllByRecursion (IsRight journal) pieces → live_pieces journal pieces ≡ pieces
live_pieces-right journal [] right = refl
live_pieces-right journal (piece ∷ pieces) right =
    ap (λ o. cond (is_some o) (piece ∷ live_pieces journal pieces) (live_pieces journal pieces)) right.0.live ∙ ap (λ rest. piece ∷ rest) (live_pieces-right journal pieces right.1)

-- So such an event changes nothing that claims depend on.
pub stepped-unchanged : (users : Users) (event : Event) (work : Work) (reply : Reply) → AllByRecursion (IsRight work.journal) work.pieces
    → outcome (directory_of users) (state_behind users work.journal) event ≡ unchanged reply → stepped users event work ≡ work
stepped-unchanged users event work reply right e =
    let same : journal_after users event work.journal ≡ work.journal =
    ap (λ more. work.journal ++ more) (entries-unchanged users (state_behind users work.journal) event reply e) ∙ append-nil work.journal in
    ap (λ journal. record work { journal = journal; pieces = live_pieces journal work.pieces }) same
    ∙ ap (λ pieces. record work { journal = work.journal; pieces = pieces }) (live_pieces-right work.journal work.pieces right)

-- but for the greatest moment
pub latest-alone : (old same new : Work) (latest : ℤ) → new ≡ record same { latest = latest } → same ≡ old → new ≡ record old { latest = new.latest }
latest-alone old same new latest is was = is ∙ ap (λ (w : Work). record w { latest = latest }) was ∙ ap (λ l. record old { latest = l }) (sym (ap (λ (w : Work). w.latest) is))

-- Its journal is the one after the event, seen from a state that is the one behind the journal.
pub journal-accepted : (users : Users) (event : Event) (state after : ServerState) (journal longer : List Entry) (status : ℕ) (change : Change) → state ≡ state_behind users journal
    → change_of (directory_of users) event.request ≡ Some change → outcome (directory_of users) state event ≡ accepted status after → longer ≡ journal ++ entry_of event change status ∷ []
    → longer ≡ journal_after users event journal
journal-accepted users event state after journal longer status change is asks e entered =
    entered ∙ ap (λ more. journal ++ more)
    (sym (entries-accepted users (state_behind users journal) after event status change asks (ap (λ s. outcome (directory_of users) s event) (sym is) ∙ e)))

-- Journals

abbrev is_made : Outcome → Bool
is_made (accepted status state) = true
is_made (unchanged reply) = false

-- what asks for no change is not accepted
never-accepted : (directory : Directory) (state after : ServerState) (event : Event) (status : ℕ) → change_of directory event.request ≡ None → outcome directory state event ≡ accepted status after → ⊥
unfolding outcome
never-accepted directory state after event status none e = by (is_reading event.request.method) e where
  by : (reads : Bool) → outcome_where reads directory state event ≡ accepted status after → ⊥
  by true done = false≢true (ap is_made done)
  by false done =
      let scene = scene_by whole_sight directory state event in
      let made = (accepted-rows (first_there (rows_of_change state scene event.request)) (changed state scene event.request.method (change_of directory event.request)) status after done).1 in
      false≢true (ap is_made (sym (ap (changed state scene event.request.method) none) ∙ made))

-- The journal after an event is legal, and leads to the state after the event.
pub journals-follow : JournalsFollow
journals-follow users journal event legal told = by (outcome (directory_of users) (state_behind users journal) event) refl where
  Follows : List Entry → Type 0
  Follows after = IsLegal (directory_of users) after × (state_behind users after ≡ state_after (directory_of users) (state_behind users journal) event)

  asked : (status : ℕ) (after : ServerState) → outcome (directory_of users) (state_behind users journal) event ≡ accepted status after
      → (change : Option Change) → change_of (directory_of users) event.request ≡ change → Follows (journal_after users event journal)
  asked status after e None asks = absurd (never-accepted (directory_of users) (state_behind users journal) after event status asks e)
  asked status after e (Some change) asks =
      let kept = accepted_keeps_legal (directory_of users) journal after event status change legal told asks e in
      subst Follows (ap (λ more. journal ++ more) (sym (entries-accepted users (state_behind users journal) after event status change asks e)))
      (kept.0, kept.1 ∙ sym (ap (state_of (state_behind users journal)) e))

  by : (o : Outcome) → outcome (directory_of users) (state_behind users journal) event ≡ o → Follows (journal_after users event journal)
  by (accepted status after) e = asked status after e (change_of (directory_of users) event.request) refl
  by (unchanged reply) e =
      subst Follows (sym (ap (λ more. journal ++ more) (entries-unchanged users (state_behind users journal) event reply e) ∙ append-nil journal))
      (legal, sym (ap (state_of (state_behind users journal)) e))

-- Want of memory

abbrev IsOther : Refusal → Type 0
IsOther refusal = refusal.status ≢ 503

other_status : (n : ℕ) → (n == 503) ≡ false → n ≢ 503
other_status n e = eqb-false n 503 e

none_wants : (method : Method) → AllByRecursion IsOther (refusals_of method)
none_wants method = (other_status 400 refl, (other_status 415 refl, own method)) where
  own : (method : Method) → AllByRecursion IsOther (own_refusals method)
  own Options = tt
  own Get = tt
  own Head = tt
  own Put = tt
  own Delete = tt
  own Propfind = (other_status 403 refl, tt)
  own Proppatch = tt
  own Report = (other_status 403 refl, (other_status 403 refl, (other_status 403 refl, (other_status 403 refl, (other_status 403 refl, tt)))))
  own Mkcalendar = tt
  own Acl = (other_status 403 refl, (other_status 403 refl, (other_status 403 refl, (other_status 403 refl, (other_status 403 refl, (other_status 403 refl, tt))))))

-- A request that can be booked was not found to want memory.
pub suits-no_want : (method : Method) (content : Content) → Suits method content → IsNoWant content
suits-no_want method content.None suits = tt
suits-no_want method (content.Put media_ok octets) suits = tt
suits-no_want method (content.Find props deep) suits = tt
suits-no_want method (content.Patch sets) suits = tt
suits-no_want method (content.Make sets) suits = tt
suits-no_want method (content.Acl grants) suits = tt
suits-no_want method (content.Report report) suits = tt
suits-no_want method (content.Bad refusal) suits = All-contains IsOther (refusals_of method) refusal (All-from_recursion IsOther (refusals_of method) (none_wants method)) suits

-- The parts of what claims depend on, after a change was entered.
pub work-stepped : (users : Users) (event : Event) (journal longer : List Entry) (old new : Board) → longer ≡ journal_after users event journal → new.pieces ≡ live_pieces longer old.pieces
    → new.latest ≡ old.latest → new.out ≡ old.out → work_with longer new ≡ stepped users event (work_with journal old)
work-stepped users event journal longer old new entered pieces latest out = λ i. record {
  journal = entered i;
  latest = latest i;
  pieces = (pieces ∙ ap (λ j. live_pieces j old.pieces) entered) i;
  out = out i;
}
