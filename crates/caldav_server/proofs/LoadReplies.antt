-- The replies to a session of `load` are those that it would have had alone, since it asks of its own home alone.
use Rattle.std.proofs.Common.{◌≡◌, ◌≢◌, ℕ, ◌+◌, ◌%◌, Bool, true, false, List, [], ◌∷◌, ◌++◌, length, map, take, drop, Option, Some, None, refl, sym, ap, ◌∙◌, subst, arith, ◌⊎◌, inl, inr}
use Rattle.std.specs.Prelude.{◌==◌, flat_map, if◌then◌else◌}
use Rattle.std.specs.List.{AllZip, AllByRecursion}
use Rattle.std.proofs.lemmas.Bool.Decides.{eqb_tells}
use Rattle.turn_lock.specs.Journals.{entries_by}
use Rattle.cal_model.specs.declared.reply.Reply.{Reply}
use Rattle.cal_model.specs.declared.request.Event.{Event}
use Rattle.cal_model.specs.declared.request.Request.{Request}
use Rattle.cal_model.specs.History.Journal.{Entry, IsLegal}
use Rattle.cal_model.specs.History.Journal.{asked as asked_by_entry}
use Rattle.cal_model.specs.Load.LoadRequests.{load_user, put_of, asked_after}
use Rattle.cal_model.specs.Load.LoadSummary.{load_event, replies}
use Rattle.cal_model.specs.Replies.BareReplies.{bare_reply}
use Rattle.cal_model.specs.Requests.AskedRequests.{asked_of}
use Rattle.cal_model.specs.Requests.ContentBounds.{SizeIsTold}
use Rattle.cal_model.specs.Serving.EventReplies.{reply_to, state_after}
use Rattle.cal_model.specs.Serving.Outcomes.{Outcome, accepted, unchanged, outcome}
use Rattle.cal_model.specs.State.Changes.{Change, change_of}
use Rattle.cal_model.specs.State.ServerState.{Directory, ServerState, directory_of, opening_state, user_number}
use Rattle.cal_model.specs.Users.UsersFile.{Users}
use Rattle.cal_book.specs.EventSteps as book
use Rattle.cal_session.specs.Turns as session
use Rattle.cal_session.specs.Turns.{Answer, event_of, entries_in, is_busy, reply_in}
use Rattle.home_laws.specs.Homes.{IsAbout, IsOwnOrApart, on_session}
use Rattle.home_laws.specs.LoneSessions as lone
use Rattle.home_laws.specs.LoneSessions.{Turn, replies_alone, is_of}
use Rattle.home_laws.proofs.EntryLemmas.{entries_stay_in_homes}
use Rattle.home_laws.proofs.OutcomeLemmas.{sessions_play_no_part}
use Rattle.home_laws.proofs.TurnLemmas.{sessions_are_alone}
use Rattle.caldav_server.specs.LoadSessions.{Answers, replies_in}

-- an answer as a turn
abbrev turn_of : ℕ → ℕ → Request → Answer → Turn
turn_of number user request answer = record { at = answer.turn.at; event = event_of number user answer.turn.moment request; reply = answer.reply }

abbrev turns_of : ℕ → ℕ → List Request → List Answer → List Turn
turns_of number user [] [] = []
turns_of number user [] (answer ∷ answers) = []
turns_of number user (request ∷ requests) [] = []
turns_of number user (request ∷ requests) (answer ∷ answers) = turn_of number user request answer ∷ turns_of number user requests answers

turns-replies : (users : Users) (number user : ℕ) (requests : List Request) (answers : List Answer) → AllZip (Answers users user) requests answers
    → map (λ (turn : Turn). turn.reply) (turns_of number user requests answers) ≡ replies_in answers
turns-replies users number user [] [] each = refl
turns-replies users number user [] (answer ∷ answers) each = absurd each
turns-replies users number user (request ∷ requests) [] each = absurd each
turns-replies users number user (request ∷ requests) (answer ∷ answers) each = ap (λ rest. answer.reply ∷ rest) (turns-replies users number user requests answers each.1)

-- the same events, but for the session's number
at_moment : (users : Users) (number user : ℕ) (request : Request) (answer : Answer) → Answers users user request answer
    → event_of number user answer.turn.moment request ≡ on_session number (load_event user request)
at_moment users number user request answer is = ap (λ moment. event_of number user moment request) is.moment

turns-events : (users : Users) (directory : Directory) (number user : ℕ) (state : ServerState) (requests : List Request) (answers : List Answer) → AllZip (Answers users user) requests answers
    → replies_alone directory state (map (λ (turn : Turn). turn.event) (turns_of number user requests answers)) ≡ replies directory state user requests
turns-events users directory number user state [] [] each = refl
turns-events users directory number user state [] (answer ∷ answers) each = absurd each
turns-events users directory number user state (request ∷ requests) [] each = absurd each
turns-events users directory number user state (request ∷ requests) (answer ∷ answers) each =
    let event = at_moment users number user request answer each.0 in
    let first = ap (reply_to directory state) event ∙ sessions_play_no_part.reply directory state (load_event user request) number in
    let after = ap (state_after directory state) event ∙ sessions_play_no_part.after directory state (load_event user request) number in
    let rest = ap (λ next. replies_alone directory next (map (λ (turn : Turn). turn.event) (turns_of number user requests answers))) after
    ∙ turns-events users directory number user (state_after directory state (load_event user request)) requests answers each.1 in
    λ i. first i ∷ rest i

-- What a turn entered

same-entries : (event : Event) (change : Option Change) (made : Outcome) → book.entries_by event change made ≡ lone.entries_by event change made
same-entries event (Some change) (accepted status after) = refl
same-entries event None (accepted status after) = refl
same-entries event (Some change) (unchanged reply) = refl
same-entries event None (unchanged reply) = refl

not-busy : (answer : Answer) → answer.reply.status ≢ 503 → is_busy answer.reply ≡ false
not-busy answer there = by (eqb_tells answer.reply.status 503) where
  by : ((is_busy answer.reply ≡ true) × (answer.reply.status ≡ 503)) ⊎ ((is_busy answer.reply ≡ false) × (answer.reply.status ≢ 503)) → is_busy answer.reply ≡ false
  by (inl busy) = absurd (there busy.1)
  by (inr free) = free.0

module _ (users : Users) (number user : ℕ) (journal : List Entry) where
  entries-same : (request : Request) (answer : Answer) → Answers users user request answer
      → session.entries_of users number journal answer ≡ lone.entries_of (directory_of users) journal (turn_of number user request answer)
  entries-same request answer is =
      let state = session.state_at users number journal answer.turn in
      ap (λ busy. if busy then [] else entries_in users number state answer.turn.moment (asked_of users answer.wire)) (not-busy answer is.there)
      ∙ ap (entries_in users number state answer.turn.moment) is.means.asks
      ∙ same-entries (event_of number user answer.turn.moment request) (change_of (directory_of users) request) (outcome (directory_of users) state (event_of number user answer.turn.moment request))

  all_entries-same : (requests : List Request) (answers : List Answer) → AllZip (Answers users user) requests answers
      → session.all_entries_of users number journal answers ≡ lone.all_entries_of (directory_of users) journal (turns_of number user requests answers)
  all_entries-same [] [] each = refl
  all_entries-same [] (answer ∷ answers) each = absurd each
  all_entries-same (request ∷ requests) [] each = absurd each
  all_entries-same (request ∷ requests) (answer ∷ answers) each =
      let first = entries-same request answer each.0 in let rest = all_entries-same requests answers each.1 in λ i. first i ++ rest i

  rises-same : (from to : ℕ) (requests : List Request) (answers : List Answer) → AllZip (Answers users user) requests answers → session.Rises users number journal from answers to
      → lone.Rises (directory_of users) journal from (turns_of number user requests answers)
  rises-same from to [] [] each rises = tt
  rises-same from to [] (answer ∷ answers) each rises = absurd each
  rises-same from to (request ∷ requests) [] each rises = absurd each
  rises-same from to (request ∷ requests) (answer ∷ answers) each rises =
      let place = ap (λ entries. answer.turn.at + length entries) (entries-same request answer each.0) in (
        subst (λ what. session.StandsBehind what from answer.turn.at) each.0.means.asks rises.0,
        subst (λ n. lone.Rises (directory_of users) journal n (turns_of number user requests answers)) place
            (rises-same (answer.turn.at + length (session.entries_of users number journal answer)) to requests answers each.1 rises.1),
      )

  -- the reply is that of the request, since memory was there
  reply-there : (request : Request) (answer : Answer) → Answers users user request answer → session.IsAnswered users number journal answer
      → answer.reply ≡ reply_to (directory_of users) (session.state_at users number journal answer.turn) (event_of number user answer.turn.moment request)
  reply-there request answer is answered = by answered.reply where
    by : (answer.reply ≡ reply_in users number (session.state_at users number journal answer.turn) answer.turn.moment (asked_of users answer.wire)) ⊎ (answer.reply ≡ bare_reply 503)
        → answer.reply ≡ reply_to (directory_of users) (session.state_at users number journal answer.turn) (event_of number user answer.turn.moment request)
    by (inl given) = given ∙ ap (reply_in users number (session.state_at users number journal answer.turn) answer.turn.moment) is.means.asks
    by (inr busy) = absurd (is.there (ap (λ (reply : Reply). reply.status) busy))

  -- a request of the user's own home
  abbrev IsOwn : Request → Type 0
  IsOwn request = IsAbout (directory_of users) request user × SizeIsTold request.size request.content

  each-turn : (requests : List Request) (answers : List Answer) → AllByRecursion IsOwn requests → AllZip (Answers users user) requests answers
      → AllByRecursion (session.IsAnswered users number journal) answers → AllByRecursion (lone.IsTurn (directory_of users) journal number user) (turns_of number user requests answers)
  each-turn [] [] own each answered = tt
  each-turn [] (answer ∷ answers) own each answered = absurd each
  each-turn (request ∷ requests) [] own each answered = absurd each
  each-turn (request ∷ requests) (answer ∷ answers) own each answered =
      let same = entries-same request answer each.0 in (
        record {
          session_is = refl;
          about = own.0.0;
          size = own.0.1;
          reply = reply-there request answer each.0 answered.0;
          stands = subst (λ entries. take (length entries) (drop answer.turn.at journal) ≡ entries) same answered.0.stand;
        },
        each-turn requests answers own.1 each.1 answered.1,
      )

  -- So the replies are those of the requests alone.
  pub replies-alone : (requests : List Request) (answers : List Answer) (old : List Entry) → AllByRecursion IsOwn requests → AllZip (Answers users user) requests answers
      → IsLegal (directory_of users) journal → AllByRecursion (IsOwnOrApart (directory_of users) user (is_of number)) journal
      → session.IsSession users number old answers journal → entries_by (λ (entry : Entry). entry.session) number old ≡ []
      → replies_in answers ≡ replies (directory_of users) (opening_state (directory_of users)) user requests
  replies-alone requests answers old own each legal apart is none =
      let turns = turns_of number user requests answers in
      sym (turns-replies users number user requests answers each)
      ∙ sessions_are_alone (directory_of users) journal number user turns (record {
        legal = legal;
        apart = apart;
        each = each-turn requests answers own each is.answered;
        rises = from-first (length old) answers is.rises requests each;
        own = is.own ∙ ap (λ entries. entries ++ session.all_entries_of users number journal answers) none ∙ all_entries-same requests answers each;
      })
      ∙ turns-events users (directory_of users) number user (opening_state (directory_of users)) requests answers each where
        from-first : (from : ℕ) (answers : List Answer) → session.Rises users number journal from answers (length journal) → (requests : List Request) → AllZip (Answers users user) requests answers
            → lone.Rises (directory_of users) journal 0 (turns_of number user requests answers)
        from-first from [] rises [] each = tt
        from-first from [] rises (request ∷ requests) each = absurd each
        from-first from (answer ∷ answers) rises [] each = absurd each
        from-first from (answer ∷ answers) rises (request ∷ requests) each = (omega arith, (rises-same from (length journal) (request ∷ requests) (answer ∷ answers) each rises).1)

-- What a session entered is about its own home.

all-both : {X : Type 0} (P : X → Type 0) (xs ys : List X) → AllByRecursion P xs → AllByRecursion P ys → AllByRecursion P (xs ++ ys)
all-both P [] ys front behind = behind
all-both P (x ∷ xs) ys front behind = (front.0, all-both P xs ys front.1 behind)

abbrev pub AreAbout : Directory → ℕ → List Entry → Type 0
AreAbout directory home entries = AllByRecursion (λ entry. IsAbout directory (asked_by_entry directory entry).request home) entries

entries-about : (directory : Directory) (event : Event) (user : ℕ) (change : Option Change) (made : Outcome) → change_of directory event.request ≡ change → IsAbout directory event.request user
    → AreAbout directory user (lone.entries_by event change made)
entries-about directory event user (Some change) (accepted status after) asks about = (entries_stay_in_homes directory event.request change user about asks, tt)
entries-about directory event user None (accepted status after) asks about = tt
entries-about directory event user (Some change) (unchanged reply) asks about = tt
entries-about directory event user None (unchanged reply) asks about = tt

all_entries-about : (directory : Directory) (journal : List Entry) (number user : ℕ) (turns : List Turn) → AllByRecursion (lone.IsTurn directory journal number user) turns
    → AreAbout directory user (lone.all_entries_of directory journal turns)
all_entries-about directory journal number user [] each = tt
all_entries-about directory journal number user (turn ∷ turns) each =
    all-both (λ entry. IsAbout directory (asked_by_entry directory entry).request user) (lone.entries_of directory journal turn) (lone.all_entries_of directory journal turns)
    (entries-about directory turn.event user (change_of directory turn.event.request) (outcome directory (lone.state_at directory journal turn) turn.event) refl each.0.about)
    (all_entries-about directory journal number user turns each.1)

pub own-about : (users : Users) (number user : ℕ) (journal : List Entry) (requests : List Request) (answers : List Answer) (old : List Entry)
    → AllByRecursion (λ (request : Request). IsAbout (directory_of users) request user × SizeIsTold request.size request.content) requests → AllZip (Answers users user) requests answers
    → session.IsSession users number old answers journal → entries_by (λ (entry : Entry). entry.session) number old ≡ []
    → AreAbout (directory_of users) user (entries_by (λ (entry : Entry). entry.session) number journal)
own-about users number user journal requests answers old own each is none =
    subst (AreAbout (directory_of users) user)
    (sym (is.own ∙ ap (λ entries. entries ++ session.all_entries_of users number journal answers) none ∙ all_entries-same users number user journal requests answers each))
    (all_entries-about (directory_of users) journal number user (turns_of number user requests answers) (each-turn users number user journal requests answers own each is.answered))

-- The requests of a session are about its own home.

module _ (users : Users) (puts user : ℕ) (known : user_number (directory_of users) (load_user user) ≡ Some user) where
  abbrev IsOfUser : Request → Type 0
  IsOfUser request = IsAbout (directory_of users) request user × SizeIsTold request.size request.content

  reports-own : (k : ℕ) → AllByRecursion IsOfUser (asked_after user k)
  reports-own k = by ((k + 1) % 10 == 0) refl where
    by : (tenth : Bool) → ((k + 1) % 10 == 0) ≡ tenth → AllByRecursion IsOfUser (asked_after user k)
    by true is = rw is ((known, tt), ((known, tt), tt))
    by false is = rw is tt

  pub requests-own : (ks : List ℕ) → AllByRecursion IsOfUser (flat_map (λ k. put_of puts user k ∷ asked_after user k) ks)
  requests-own [] = tt
  requests-own (k ∷ ks) = all-both IsOfUser (put_of puts user k ∷ asked_after user k) (flat_map (λ k. put_of puts user k ∷ asked_after user k) ks) ((known, refl), reports-own k) (requests-own ks)
