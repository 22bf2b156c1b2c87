-- A session under way goes on, or ends, by each thing that can happen.
use Rattle.std.proofs.Common.{◌≡◌, ℕ, suc, ◌-◌, ◌<◌, ◌≤◌, Bool, ◌⊎◌, inl, inr, List, [], ◌∷◌, ◌++◌, length, take, arith, refl, sym, ap, subst, ◌∙◌, true, false, Some}
use Rattle.std.specs.Prelude.{ℤ, if◌then◌else◌}
use Rattle.std.specs.Prelude.{leb}
use Rattle.std.proofs.lemmas.Bool.{leb-true, leb-false}
use Rattle.std.proofs.lemmas.List.{append-nil}
use Rattle.cal_base.specs.World.Outside.{Rose, Takes, Adds}
use Rattle.turn_lock.specs.Passes.{PassState}
use Rattle.turn_lock.proofs.Histories.{all_both}
use Rattle.cal_model.specs.declared.wire.WireFault.{WireFault}
use Rattle.cal_model.specs.declared.wire.WireRequest.{WireRequest}
use Rattle.cal_model.specs.History.Journal.{Entry}
use Rattle.cal_model.specs.Replies.WireReplies.{fault_octets}
use Rattle.cal_model.specs.Streams.StreamRequests.{Ending, ends_idle, ends_cut, ends_at, Spells, Begins, Ends, front, idle, cut, fault, up_to_close}
use Rattle.cal_model.specs.Streams.WireLimits.{request_limit}
use Rattle.cal_model.proofs.Streams.ReadingLaws.{streams_are_read, streams_grow}
use Rattle.http_wire.specs.Wires.{Stands}
use Rattle.http_wire.specs.declared.wire.Wire.{Wire}
use Rattle.http_wire.proofs.ServedRequests.{open_parts, served_front, served_open}
use Rattle.cal_model.specs.Transcripts.ConnectionAnswers.{is_open}
use Rattle.cal_model.specs.Users.UsersFile.{Users}
use Rattle.cal_session.specs.AskedTurns.{AnsweredAt}
use Rattle.cal_session.specs.Connections.{requests_of, replies_of, AnsweredAll, AnsweredSome, IsFrontOfReplies}
use Rattle.cal_session.specs.SessionStates.{Environment, LinkTold, SessionState, HasSeenMore}
use Rattle.cal_session.specs.Sessions.{Exchange, whole_exchange, HasRun, MetEnd}
use Rattle.cal_session.specs.UnderWay.{IsReached, IsUnderWay, IsWaiting, EndsIn, EndsAtEnd}
use Rattle.cal_session.specs.declared.served.How.{How}
use Rattle.cal_session.specs.declared.served.How.TheVariants.{Closed, CutInRequest, Limit, WireRefused, ReadFault, WriteFault, NoMemory}
use Rattle.cal_session.specs.Turns.{Answer, IsToldMoment, seen_behind}
use Rattle.cal_session.specs.declared.served.Served.{Served}
use Rattle.cal_session.proofs.StepLemmas.{adds_on, takes_on, map_further, looks_on}
use Rattle.cal_session.proofs.StreamLemmas.{spells_on}
use Rattle.cal_session.proofs.TurnLaws.{HasSeenAll, session_later, stands_later, one_here}

-- what a pass knows goes on in two steps as in one
pub seen_further : (start now next : PassState Entry Users) → HasSeenMore start now → HasSeenMore now next → HasSeenMore start next
seen_further start now next h g = g ∙ ap (λ (p : PassState Entry Users). record p { seen = next.seen; looks = next.looks }) h

module _ (users : Users) (start now next : PassState Entry Users) where
  -- one answer more in the session
  pub session_more : (answers : List Answer) (a : Answer) → HasSeenMore start now → HasSeenAll users start.number start.seen answers now.seen → AnsweredAt users now next a → HasSeenAll users start.number start.seen (answers ++ a ∷ []) next.seen
  session_more answers a on s x =
      let number : now.number ≡ start.number = ap (λ (p : PassState Entry Users). p.number) on in
      let own = subst (λ n. HasSeenAll users n start.seen answers now.seen) (sym number) s in
      let at : HasSeenAll users now.number start.seen (answers ++ a ∷ []) next.seen =
      subst (HasSeenAll users now.number start.seen (answers ++ a ∷ [])) (sym x.seen)
      (one_here users now.number start.seen answers x.journal a
      (session_later users now.number now.gone start.seen answers now.seen x.journal own.0 x.later)
      x.place (stands_later users now.number now.gone start.seen answers now.seen x.journal a own.0 own.1 x.later x.place x.refused_at) x.status x.reply x.alike) in
      subst (λ n. HasSeenAll users n start.seen (answers ++ a ∷ []) next.seen) number at

module _ (environment : Environment) (before now after : SessionState) where
  -- one answer more in all that is told of a session, whose reply, or a front of it, was written
  pub run_more : (turns : List Served) (stream : List ℕ) (answers : List Answer) (a : Answer) (piece : List ℕ) → HasSeenMore before.pass now.pass → HasRun environment before now turns (whole_exchange stream answers)
      → seen_behind environment.users before.pass.number now.pass.seen (length before.pass.seen) answers ≡ length now.pass.seen → AnsweredAt environment.users now.pass after.pass a → IsToldMoment environment.clock a.turn.moment
      → after.link.left ≡ now.link.left → Adds now.link.written piece after.link.written
      → HasRun environment before after (turns ++ a.turn ∷ []) (record { stream = stream; answers = answers ++ a ∷ []; printed = replies_of answers ++ piece })
  run_more turns stream answers a piece more run seen x moment left added = record {
    taken = subst (λ l. Takes before.link.left stream l) (sym left) run.taken;
    turns_are = ap (λ l. l ++ a.turn ∷ []) run.turns_are ∙ sym (map_further (λ (answer : Answer). answer.turn) answers a);
    session = (session_more environment.users before.pass now.pass after.pass answers a more (run.session, seen) x).0;
    looks = looks_on environment.users before.pass.looks now.pass.looks after.pass.looks answers (a ∷ []) run.looks x.looks;
    moments = all_both (λ (answer : Answer). IsToldMoment environment.clock answer.turn.moment) answers (a ∷ []) run.moments (moment, tt);
    written = adds_on before.link.written now.link.written after.link.written (replies_of answers) piece run.written added;
  }

-- all that a stream has was answered, where the connection is open and what is left begins no further request
pub answered_all : (stream rest : List ℕ) (answers : List Answer) (ending : Ending) → Spells stream (requests_of answers) rest → Ends rest ending → is_open (requests_of answers) ≡ true → AnsweredAll stream answers ending
answered_all stream rest answers ending spelled ended stays = record {
  requests = requests_of answers;
  rest = rest;
  reading = record { spelled = spelled; ended = ended };
  all = sym (served_open (requests_of answers) stays);
}

-- Requests that are left

-- what is left has a reading, so those that were answered stand in front of those that are served
pub answered_some : (stream rest : List ℕ) (answers : List Answer) → Spells stream (requests_of answers) rest → is_open (requests_of answers) ≡ true → (missing : List WireRequest) × AnsweredSome stream answers missing
answered_some stream rest answers spelled stays =
    let read = streams_are_read rest in
    let requests = requests_of answers in (
      up_to_close (take (request_limit - length requests) read.0),
      record {
        requests = requests ++ read.0;
        rest = read.1;
        ending = read.2;
        reading = record { spelled = spells_on stream rest read.1 requests read.0 spelled read.3.spelled; ended = read.3.ended };
        some = served_front requests read.0 stays;
      },
    )

-- one that is whole is among those that are served
front_served : (k : ℕ) (wire : WireRequest) (later : List WireRequest) → (missing : List WireRequest) × (up_to_close (take (suc k) (wire ∷ later)) ≡ wire ∷ missing)
front_served k wire later = by_close wire.close refl
  where
    by_close : (b : Bool) → wire.close ≡ b → (missing : List WireRequest) × (up_to_close (take (suc k) (wire ∷ later)) ≡ wire ∷ missing)
    by_close true is = ([], ap (λ b. if b then wire ∷ [] else wire ∷ up_to_close (take k later)) is)
    by_close false is = (up_to_close (take k later), ap (λ b. if b then wire ∷ [] else wire ∷ up_to_close (take k later)) is)

pub answered_before : (stream rest behind : List ℕ) (answers : List Answer) (wire : WireRequest) → Spells stream (requests_of answers) rest → is_open (requests_of answers) ≡ true → Begins rest wire behind
    → (missing : List WireRequest) × AnsweredSome stream answers (wire ∷ missing)
answered_before stream rest behind answers wire spelled stays begins =
    let read = streams_are_read behind in
    let requests = requests_of answers in
    let parts = open_parts requests stays in
    let front = front_served (request_limit - length requests - 1) wire read.0 in
    let room : request_limit - length requests ≡ suc (request_limit - length requests - 1) = omega (arith, parts.1) in (
      front.0,
      record {
        requests = requests ++ wire ∷ read.0;
        rest = read.1;
        ending = read.2;
        reading = record { spelled = spells_on stream rest read.1 requests (wire ∷ read.0) spelled (behind, begins, read.3.spelled); ended = read.3.ended };
        some = served_front requests (wire ∷ read.0) stays ∙ ap (λ n. requests ++ up_to_close (take n (wire ∷ read.0))) room ∙ ap (λ l. requests ++ l) front.1;
      },
    )

-- all replies are a beginning of them
pub all_front : (answers : List Answer) → IsFrontOfReplies answers (replies_of answers)
all_front answers = record { whole = answers; last = []; parts = sym (append-nil answers); one = omega arith; many = 0; printed_is = sym (append-nil (replies_of answers)) }

-- Counts

order : (a b : ℕ) → (a ≤ b) ⊎ (b < a)
order a b = by_test (leb a b) refl
  where
    by_test : (test : Bool) → leb a b ≡ test → (a ≤ b) ⊎ (b < a)
    by_test true is = inl (leb-true a b is)
    by_test false is = inr (let h = leb-false a b is in omega (arith, h))

pub rose_since : (first second third : ℕ) → first ≤ second → second ≤ third → Rose second third → Rose first third
rose_since first second third h g (inl less) = inl (omega (arith, h, less))
rose_since first second third h g (inr full) = by_order (order second first)
  where
    by_order : (second ≤ first) ⊎ (first < second) → Rose first third
    by_order (inl not_more) = inr (omega (arith, h, not_more, full))
    by_order (inr less) = inl (omega (arith, less, g))

-- Reading

module _ (environment : Environment) (before now : SessionState) (link : LinkTold) (turns : List Served) where
  -- the session, where nothing but the link went on
  abbrev after : SessionState
  after = record { pass = now.pass; link = link }

  -- more was taken, and nothing written
  run_taken : (exchange : Exchange) (piece : List ℕ) → HasRun environment before now turns exchange → Takes now.link.left piece link.left → link.written ≡ now.link.written
      → HasRun environment before after turns (record exchange { stream = exchange.stream ++ piece })
  run_taken exchange piece run taken written = record {
    taken = takes_on before.link.left now.link.left link.left exchange.stream piece run.taken taken;
    turns_are = run.turns_are;
    session = run.session;
    looks = run.looks;
    moments = run.moments;
    written = subst (λ w. Adds before.link.written exchange.printed w) (sym written) run.written;
  }

  run_same : (exchange : Exchange) → HasRun environment before now turns exchange → link.left ≡ now.link.left → link.written ≡ now.link.written → HasRun environment before after turns exchange
  run_same exchange run left written = record {
    taken = subst (λ l. Takes before.link.left exchange.stream l) (sym left) run.taken;
    turns_are = run.turns_are;
    session = run.session;
    looks = run.looks;
    moments = run.moments;
    written = subst (λ w. Adds before.link.written exchange.printed w) (sym written) run.written;
  }

  waits_at : (rest : List ℕ) → (front rest ≡ idle) ⊎ (front rest ≡ cut) → (ending : Ending) × Ends rest ending
  waits_at rest (inl is) = (ends_idle, is)
  waits_at rest (inr is) = (ends_cut, is)

  pub read_failed : (wire : Wire) → IsWaiting environment before now turns wire → link.left ≡ now.link.left → link.written ≡ now.link.written → now.link.faults ≤ link.faults → Rose now.link.faults link.faults
      → EndsIn environment before after turns ReadFault
  read_failed wire w left written falls rose =
      let waits = waits_at w.rest w.waits in
      record {
        exchange = whole_exchange w.stream w.reached.answers;
        run = run_same (whole_exchange w.stream w.reached.answers) w.reached.run left written;
        ended = (
          refl,
          record {
            ending = waits.0;
            answered = answered_all w.stream w.rest w.reached.answers waits.0 w.reached.spelled waits.1 w.reached.still_open;
            still_open = w.reached.still_open;
            fault = rose_since before.link.faults now.link.faults link.faults w.reached.faults falls rose;
          },
        );
      }

  pub read_fed : (wire fed : Wire) (piece : List ℕ) → IsWaiting environment before now turns wire → Takes now.link.left piece link.left → link.written ≡ now.link.written → now.link.faults ≤ link.faults
      → ((octets : List ℕ) → Stands octets wire → Stands (octets ++ piece) fed) → IsUnderWay environment before after turns fed
  read_fed wire fed piece w taken written falls feeds = record {
    stream = w.stream ++ piece;
    rest = w.rest ++ piece;
    reached = record {
      pass = w.reached.pass;
      answers = w.reached.answers;
      run = run_taken (whole_exchange w.stream w.reached.answers) piece w.reached.run taken written;
      still_open = w.reached.still_open;
      spelled = subst (λ requests. Spells (w.stream ++ piece) requests (w.rest ++ piece)) (append-nil (requests_of w.reached.answers)) (streams_grow w.stream piece (requests_of w.reached.answers) [] w.rest (w.rest ++ piece) w.reached.spelled refl);
      faults = (let h = w.reached.faults in omega (arith, h, falls));
      seen = w.reached.seen;
    };
    stands = feeds w.rest w.stands;
  }

  pub read_wanting : (wire : Wire) (piece : List ℕ) → IsWaiting environment before now turns wire → Takes now.link.left piece link.left → link.written ≡ now.link.written → EndsIn environment before after turns NoMemory
  read_wanting wire piece w taken written =
      let spelled = subst (λ requests. Spells (w.stream ++ piece) requests (w.rest ++ piece)) (append-nil (requests_of w.reached.answers)) (streams_grow w.stream piece (requests_of w.reached.answers) [] w.rest (w.rest ++ piece) w.reached.spelled refl) in
      let some = answered_some (w.stream ++ piece) (w.rest ++ piece) w.reached.answers spelled w.reached.still_open in
      record {
        exchange = whole_exchange (w.stream ++ piece) w.reached.answers;
        run = run_taken (whole_exchange w.stream w.reached.answers) piece w.reached.run taken written;
        ended = record { missing = some.0; answered = some.1; front = inl (all_front w.reached.answers) };
      }

  pub read_ended : (wire : Wire) (how : How) → IsWaiting environment before now turns wire → Takes now.link.left [] link.left → link.written ≡ now.link.written → link.left ≡ Some []
      → ((octets : List ℕ) → Stands octets wire → EndsAtEnd (front octets) how) → EndsIn environment before after turns how
  read_ended wire how w taken written at_end ends = by_how how (ends w.rest w.stands) w.waits
    where
      exchange : Exchange
      exchange = whole_exchange w.stream w.reached.answers

      run : HasRun environment before after turns exchange
      run = subst (λ s. HasRun environment before after turns (whole_exchange s w.reached.answers)) (append-nil w.stream) (run_taken exchange [] w.reached.run taken written)

      met : (ending : Ending) → Ends w.rest ending → MetEnd exchange ending link
      met ending is = record {
        answered = answered_all w.stream w.rest w.reached.answers ending w.reached.spelled is w.reached.still_open;
        still_open = w.reached.still_open;
        at_end = at_end;
      }

      by_how : (how : How) → EndsAtEnd (front w.rest) how → (front w.rest ≡ idle) ⊎ (front w.rest ≡ cut) → EndsIn environment before after turns how
      by_how Closed is waits = record { exchange = exchange; run = run; ended = (refl, inl (met ends_idle is)) }
      by_how CutInRequest is (inl closed) = absurd (is closed)
      by_how CutInRequest is (inr cuts) = record { exchange = exchange; run = run; ended = (refl, met ends_cut cuts) }
      by_how Limit is waits = absurd is
      by_how (WireRefused why) is waits = absurd is
      by_how ReadFault is waits = absurd is
      by_how WriteFault is waits = absurd is
      by_how NoMemory is waits = absurd is

  -- Refusing

  -- a front of the reply to a fault was written
  pub run_refused : (stream : List ℕ) (answers : List Answer) (piece : List ℕ) → HasRun environment before now turns (whole_exchange stream answers) → link.left ≡ now.link.left → Adds now.link.written piece link.written
      → HasRun environment before after turns (record { stream = stream; answers = answers; printed = replies_of answers ++ piece })
  run_refused stream answers piece run left added = record {
    taken = subst (λ l. Takes before.link.left stream l) (sym left) run.taken;
    turns_are = run.turns_are;
    session = run.session;
    looks = run.looks;
    moments = run.moments;
    written = adds_on before.link.written now.link.written link.written (replies_of answers) piece run.written added;
  }

  pub refused_whole : (stream rest : List ℕ) (why : WireFault) (moment : ℤ) → IsReached environment before now turns stream rest → front rest ≡ fault why → IsToldMoment environment.clock moment
      → link.left ≡ now.link.left → Adds now.link.written (fault_octets why moment) link.written → EndsIn environment before after turns (WireRefused why)
  refused_whole stream rest why moment r is dated left added = record {
    exchange = record { stream = stream; answers = r.answers; printed = replies_of r.answers ++ fault_octets why moment };
    run = run_refused stream r.answers (fault_octets why moment) r.run left added;
    ended = record {
      answered = answered_all stream rest r.answers (ends_at why) r.spelled is r.still_open;
      still_open = r.still_open;
      moment = moment;
      moment_is = dated;
      printed_is = refl;
    };
  }
