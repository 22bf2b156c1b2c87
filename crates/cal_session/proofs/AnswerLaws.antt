-- A session goes on by an answer, or stops at one: its reply was written, or a front of it; or the desk broke.
use Rattle.std.proofs.Common.{◌≡◌, ℕ, ◌+◌, ◌<◌, ◌≤◌, ◌⊎◌, inl, inr, List, [], ◌∷◌, ◌++◌, length, take, arith, refl, sym, ap, subst, ◌∙◌, true, false, Some}
use Rattle.std.specs.Prelude.{ℤ, Result, Ok, Err}
use Rattle.std.proofs.lemmas.List.{append-nil, append_assoc, length-append, length-take-le}
use Rattle.cal_base.specs.World.Outside.{Takes, Adds}
use Rattle.turn_lock.specs.Passes.{PassState}
use Rattle.turn_lock.specs.Journals.{IsFollowedByOthers}
use Rattle.cal_model.specs.declared.wire.WireFault.{WireFault}
use Rattle.cal_model.specs.declared.wire.WireRequest.{WireRequest}
use Rattle.cal_model.specs.History.Journal.{Entry}
use Rattle.cal_model.specs.Replies.WireReplies.{answer_octets, fault_octets}
use Rattle.cal_model.specs.Requests.AskedRequests.{asked_of}
use Rattle.cal_model.specs.Streams.StreamRequests.{Ending, ends_at, Spells, Begins, front, fault}
use Rattle.cal_model.specs.Streams.WireLimits.{request_limit}
use Rattle.cal_model.specs.Transcripts.ConnectionAnswers.{is_open}
use Rattle.cal_model.specs.Users.UsersFile.{Users}
use Rattle.cal_model.proofs.Streams.ReadingLaws.{streams_are_read}
use Rattle.cal_book.specs.EventSteps.{state_behind}
use Rattle.http_wire.specs.Wires.{NextIs}
use Rattle.http_wire.specs.declared.wire.Next.TheVariants.{Need}
use Rattle.http_wire.specs.declared.wire.Wire.{Wire}
use Rattle.http_wire.proofs.ServedRequests.{open_parts, served_closed, still_open}
use Rattle.cal_session.specs.AskedTurns.{AnsweredAt, BrokeAt}
use Rattle.cal_session.specs.Connections.{requests_of, replies_of, AnsweredAll, AnsweredSome}
use Rattle.cal_session.specs.SessionStates.{Environment, LinkTold, SessionState, HasSeenMore}
use Rattle.cal_session.specs.Sessions.{Exchange, whole_exchange, HasRun, HasBroken, IsCutShort, RefusesInPart}
use Rattle.cal_session.specs.Turns.{Answer, IsToldMoment, LooksUp, entries_in}
use Rattle.cal_session.specs.UnderWay.{IsReached, IsUnderWay, IsWaiting, EndsIn, StopsSo, GoesOnOrStops}
use Rattle.cal_session.specs.WrittenReplies.{IsSent, GoesOnBehind}
use Rattle.cal_session.specs.declared.answering.Stop.{Stop}
use Rattle.cal_session.specs.declared.answering.Stop.TheVariants.{Ended, Broken}
use Rattle.cal_session.specs.declared.served.Served.{Served}
use Rattle.cal_session.specs.declared.served.How.{How}
use Rattle.cal_session.specs.declared.served.How.TheVariants.{Closed, CutInRequest, Limit, WireRefused, ReadFault, WriteFault, NoMemory}
use Rattle.cal_session.proofs.SessionLaws.{seen_further, session_more, run_more, run_refused, all_front, answered_some, answered_before, answered_all, rose_since}
use Rattle.cal_session.proofs.StepLemmas.{replies_further, map_further, map_len, looks_on}
use Rattle.cal_session.proofs.StreamLemmas.{spells_more, spells_on}
use Rattle.cal_session.proofs.TurnLaws.{session_later}

module _ (environment : Environment) (before now after : SessionState) (turns : List Served) (stream rest behind : List ℕ) where
  -- the requests with one more
  requests_more : (answers : List Answer) (a : Answer) → requests_of (answers ++ a ∷ []) ≡ requests_of answers ++ a.wire ∷ []
  requests_more answers a = map_further (λ (answer : Answer). answer.wire) answers a

  spelled_more : (answers : List Answer) (a : Answer) → Spells stream (requests_of answers) rest → Begins rest a.wire behind → Spells stream (requests_of (answers ++ a ∷ [])) behind
  spelled_more answers a spelled begins = subst (λ requests. Spells stream requests behind) (sym (requests_more answers a)) (spells_more stream rest behind (requests_of answers) a.wire spelled begins)

  -- The reply was written, and the request does not close the connection

  pub reached_more : (r : IsReached environment before now turns stream rest) (a : Answer) → HasSeenMore now.pass after.pass → Begins rest a.wire behind → AnsweredAt environment.users now.pass after.pass a → IsToldMoment environment.clock a.turn.moment
      → after.link.left ≡ now.link.left → Adds now.link.written (answer_octets (length r.answers) a.wire a.reply a.turn.moment) after.link.written → now.link.faults ≤ after.link.faults → a.wire.close ≡ false → length r.answers + 1 < request_limit
      → IsReached environment before after (turns ++ a.turn ∷ []) stream behind
  reached_more r a more begins x dated left added falls stays few = record {
    pass = seen_further before.pass now.pass after.pass r.pass more;
    answers = r.answers ++ a ∷ [];
    run = subst (λ printed. HasRun environment before after (turns ++ a.turn ∷ []) (record { stream = stream; answers = r.answers ++ a ∷ []; printed = printed })) (sym (replies_further r.answers a))
        (run_more environment before now after turns stream r.answers a (answer_octets (length r.answers) a.wire a.reply a.turn.moment) r.pass r.run r.seen x dated left added);
    still_open = subst (λ requests. is_open requests ≡ true) (sym (requests_more r.answers a))
        (still_open (requests_of r.answers) a.wire r.still_open stays (let n = map_len (λ (answer : Answer). answer.wire) r.answers in omega (arith, n, few)));
    spelled = spelled_more r.answers a r.spelled begins;
    faults = (let h = r.faults in omega (arith, h, falls));
    seen = (session_more environment.users before.pass now.pass after.pass r.answers a r.pass (r.run.session, r.seen) x).1;
  }

  -- all that is served was answered, where the request closes the connection
  all_answered : (r : IsReached environment before now turns stream rest) (a : Answer) → Begins rest a.wire behind → (a.wire.close ≡ true) ⊎ (length r.answers + 1 ≡ request_limit)
      → (ending : Ending) × AnsweredAll stream (r.answers ++ a ∷ []) ending
  all_answered r a begins why =
      let read = streams_are_read behind in
      let requests = requests_of r.answers in
      let full : (a.wire.close ≡ true) ⊎ (request_limit ≤ length requests + 1) = elim why [ inl asks ↦ inl asks | inr last ↦ inr (let n = map_len (λ (answer : Answer). answer.wire) r.answers in omega (arith, n, last)) ] in (
        read.2,
        record {
          requests = requests ++ a.wire ∷ read.0;
          rest = read.1;
          reading = record { spelled = spells_on stream rest read.1 requests (a.wire ∷ read.0) r.spelled (behind, begins, read.3.spelled); ended = read.3.ended };
          all = requests_more r.answers a ∙ sym (served_closed requests read.0 a.wire r.still_open full);
        },
      )

  -- The desk broke

  pub broke : (r : IsReached environment before now turns stream rest) (wire : WireRequest) (moment : ℤ) → Begins rest wire behind → BrokeAt environment.users now.pass after.pass wire moment → IsToldMoment environment.clock moment
      → after.link.left ≡ now.link.left → after.link.written ≡ now.link.written → HasBroken environment before after turns
  broke r wire moment begins x dated left written =
      let users = environment.users in
      let number : now.pass.number ≡ before.pass.number = ap (λ (p : PassState Entry Users). p.number) r.pass in
      let some = answered_before stream rest behind r.answers wire r.spelled r.still_open begins in
      record {
        stream = stream;
        answers = r.answers;
        seen = x.journal;
        run = record {
          taken = subst (λ l. Takes before.link.left stream l) (sym left) r.run.taken;
          turns_are = r.run.turns_are;
          session = session_later users before.pass.number now.pass.gone before.pass.seen r.answers now.pass.seen x.journal r.run.session (subst (λ n. IsFollowedByOthers (λ (entry : Entry). entry.session) (n ∷ now.pass.gone) now.pass.seen x.journal) number x.later);
          looks = subst (λ l. LooksUp users before.pass.looks l after.pass.looks) (append-nil r.answers) (looks_on users before.pass.looks now.pass.looks after.pass.looks r.answers [] r.run.looks x.looks);
          moments = r.run.moments;
          written = subst (λ w. Adds before.link.written (replies_of r.answers) w) (sym written) r.run.written;
        };
        wire = wire;
        missing = some.0;
        next = some.1;
        moment = moment;
        moment_is = dated;
        kept = subst (λ n. (after.pass.seen ≡ x.journal) ⊎ (after.pass.seen ≡ x.journal ++ entries_in users n (state_behind users x.journal) moment (asked_of users wire))) number x.kept;
      }

  -- A front of the reply was written

  pub cut_short : (r : IsReached environment before now turns stream rest) (a : Answer) (how : How) → Begins rest a.wire behind → AnsweredAt environment.users now.pass after.pass a → IsToldMoment environment.clock a.turn.moment
      → after.link.left ≡ now.link.left → IsSent (answer_octets (length r.answers) a.wire a.reply a.turn.moment) now.link after.link (Some how) → now.link.faults ≤ after.link.faults
      → EndsIn environment before after (turns ++ a.turn ∷ []) how
  cut_short r a how begins x dated left sent falls = by_how how sent
    where
      octets : List ℕ
      octets = answer_octets (length r.answers) a.wire a.reply a.turn.moment

      some : (missing : List WireRequest) × AnsweredSome stream (r.answers ++ a ∷ []) missing
      some =
          let all = answered_before stream rest behind r.answers a.wire r.spelled r.still_open begins in (
            all.0,
            record {
              requests = all.1.requests;
              rest = all.1.rest;
              ending = all.1.ending;
              reading = all.1.reading;
              some = all.1.some ∙ (sym (append_assoc (requests_of r.answers) (a.wire ∷ []) all.0) ∙ ap (λ l. l ++ all.0) (sym (requests_more r.answers a)));
            },
          )

      exchange : ℕ → Exchange
      exchange many = record { stream = stream; answers = r.answers ++ a ∷ []; printed = replies_of r.answers ++ take many octets }

      part : (many : ℕ) → Adds now.link.written (take many octets) after.link.written → HasRun environment before after (turns ++ a.turn ∷ []) (exchange many)
      part many added = run_more environment before now after turns stream r.answers a (take many octets) r.pass r.run r.seen x dated left added

      cut_at : (many : ℕ) → IsCutShort environment.clock (exchange many)
      cut_at many = record {
        missing = some.0;
        answered = some.1;
        front = inl (record {
          whole = r.answers;
          last = a ∷ [];
          parts = refl;
          one = omega arith;
          many = many;
          printed_is = ap (λ l. replies_of r.answers ++ take many l) (sym (append-nil octets));
        });
      }

      shorter : (many : ℕ) → many < length octets → length (replies_of r.answers ++ take many octets) < length (replies_of (r.answers ++ a ∷ []))
      shorter many few =
          let all : length (replies_of (r.answers ++ a ∷ [])) ≡ length (replies_of r.answers ++ octets) = ap length (replies_further r.answers a) in
          let whole = length-append (replies_of r.answers) octets in
          let written = length-append (replies_of r.answers) (take many octets) in
          let front = length-take-le many octets (omega (arith, few)) in
          omega (arith, few, all, whole, written, front)

      by_how : (how : How) → IsSent octets now.link after.link (Some how) → EndsIn environment before after (turns ++ a.turn ∷ []) how
      by_how WriteFault s = record { exchange = exchange s.0.0; run = part s.0.0 s.0.2; ended = (cut_at s.0.0, inl (shorter s.0.0 s.0.1), rose_since before.link.faults now.link.faults after.link.faults r.faults falls s.1) }
      by_how NoMemory s = record { exchange = exchange s.0; run = part s.0 s.1; ended = cut_at s.0 }
      by_how Closed s = absurd s
      by_how CutInRequest s = absurd s
      by_how Limit s = absurd s
      by_how (WireRefused why) s = absurd s
      by_how ReadFault s = absurd s

  -- The reply was written, and the request closes the connection

  pub closes : (r : IsReached environment before now turns stream rest) (a : Answer) → Begins rest a.wire behind → AnsweredAt environment.users now.pass after.pass a → IsToldMoment environment.clock a.turn.moment
      → after.link.left ≡ now.link.left → Adds now.link.written (answer_octets (length r.answers) a.wire a.reply a.turn.moment) after.link.written → a.wire.close ≡ true → length r.answers + 1 < request_limit
      → EndsIn environment before after (turns ++ a.turn ∷ []) Closed
  closes r a begins x dated left added asks few =
      let all = all_answered r a begins (inl asks) in
      record {
        exchange = record { stream = stream; answers = r.answers ++ a ∷ []; printed = replies_of r.answers ++ answer_octets (length r.answers) a.wire a.reply a.turn.moment };
        run = run_more environment before now after turns stream r.answers a (answer_octets (length r.answers) a.wire a.reply a.turn.moment) r.pass r.run r.seen x dated left added;
        ended = (
          sym (replies_further r.answers a),
          inr (record {
            ending = all.0;
            answered = all.1;
            asked_to = record { before = r.answers; last = a; parts = refl; asks = asks; early = (let n = length-append r.answers (a ∷ []) in omega (arith, n, few)) };
          }),
        );
      }

  pub meets_limit : (r : IsReached environment before now turns stream rest) (a : Answer) → Begins rest a.wire behind → AnsweredAt environment.users now.pass after.pass a → IsToldMoment environment.clock a.turn.moment
      → after.link.left ≡ now.link.left → Adds now.link.written (answer_octets (length r.answers) a.wire a.reply a.turn.moment) after.link.written → length r.answers + 1 ≡ request_limit
      → EndsIn environment before after (turns ++ a.turn ∷ []) Limit
  meets_limit r a begins x dated left added last =
      let all = all_answered r a begins (inr last) in
      record {
        exchange = record { stream = stream; answers = r.answers ++ a ∷ []; printed = replies_of r.answers ++ answer_octets (length r.answers) a.wire a.reply a.turn.moment };
        run = run_more environment before now after turns stream r.answers a (answer_octets (length r.answers) a.wire a.reply a.turn.moment) r.pass r.run r.seen x dated left added;
        ended = (sym (replies_further r.answers a), record { ending = all.0; answered = all.1; full = (let n = length-append r.answers (a ∷ []) in omega (arith, n, last)) });
      }

  -- Both, where so many turns were noted before

  count : (r : IsReached environment before now turns stream rest) → length turns ≡ length r.answers
  count r = ap length r.run.turns_are ∙ map_len (λ (answer : Answer). answer.turn) r.answers

  pub stops_short : (r : IsReached environment before now turns stream rest) (a : Answer) (how : How) → Begins rest a.wire behind → AnsweredAt environment.users now.pass after.pass a → IsToldMoment environment.clock a.turn.moment
      → after.link.left ≡ now.link.left → IsSent (answer_octets (length turns) a.wire a.reply a.turn.moment) now.link after.link (Some how) → now.link.faults ≤ after.link.faults
      → EndsIn environment before after (turns ++ a.turn ∷ []) how
  stops_short r a how begins x dated left sent falls =
      cut_short r a how begins x dated left (subst (λ n. IsSent (answer_octets n a.wire a.reply a.turn.moment) now.link after.link (Some how)) (count r) sent) falls

  -- the reply was written, and the session goes on behind it, or stops there
  pub goes_behind : {X : Type 0} → (r : IsReached environment before now turns stream rest) (a : Answer) (result : Result (Unit {0}) (Stop X)) → HasSeenMore now.pass after.pass → Begins rest a.wire behind → AnsweredAt environment.users now.pass after.pass a → IsToldMoment environment.clock a.turn.moment
      → after.link.left ≡ now.link.left → Adds now.link.written (answer_octets (length turns) a.wire a.reply a.turn.moment) after.link.written → now.link.faults ≤ after.link.faults → GoesOnBehind (length turns) a.wire result
      → GoesOnOrStops (IsReached environment before after (turns ++ a.turn ∷ []) stream behind) (StopsSo environment before after (turns ++ a.turn ∷ [])) result
  goes_behind r a result more begins x dated left added falls g = by_result result (subst (λ n. GoesOnBehind n a.wire result) (count r) g)
    where
      all : Adds now.link.written (answer_octets (length r.answers) a.wire a.reply a.turn.moment) after.link.written
      all = subst (λ n. Adds now.link.written (answer_octets n a.wire a.reply a.turn.moment) after.link.written) (count r) added

      by_result : {Y : Type 0} → (result : Result (Unit {0}) (Stop Y)) → GoesOnBehind (length r.answers) a.wire result
          → GoesOnOrStops (IsReached environment before after (turns ++ a.turn ∷ []) stream behind) (StopsSo environment before after (turns ++ a.turn ∷ [])) result
      by_result (Ok nothing) h = reached_more r a more begins x dated left all falls h.0 h.1
      by_result (Err (Ended Limit)) h = meets_limit r a begins x dated left all h
      by_result (Err (Ended Closed)) h = closes r a begins x dated left all h.0 h.1
      by_result (Err (Ended CutInRequest)) h = absurd h
      by_result (Err (Ended (WireRefused why))) h = absurd h
      by_result (Err (Ended ReadFault)) h = absurd h
      by_result (Err (Ended WriteFault)) h = absurd h
      by_result (Err (Ended NoMemory)) h = absurd h
      by_result (Err (Broken why)) h = absurd h

-- A front of the reply to a fault was written

pub refused_in_part : (environment : Environment) (before now : SessionState) (link : LinkTold) (turns : List Served) (stream rest : List ℕ) (why : WireFault) (moment : ℤ) (how : How)
    → IsReached environment before now turns stream rest → front rest ≡ fault why → IsToldMoment environment.clock moment → link.left ≡ now.link.left
    → IsSent (fault_octets why moment) now.link link (Some how) → now.link.faults ≤ link.faults → EndsIn environment before (record { pass = now.pass; link = link }) turns how
refused_in_part environment before now link turns stream rest why moment how r is dated left sent falls = by_how how sent
  where
    some : (missing : List WireRequest) × AnsweredSome stream r.answers missing
    some = answered_some stream rest r.answers r.spelled r.still_open

    exchange : ℕ → Exchange
    exchange many = record { stream = stream; answers = r.answers; printed = replies_of r.answers ++ take many (fault_octets why moment) }

    part : (many : ℕ) → Adds now.link.written (take many (fault_octets why moment)) link.written → HasRun environment before (record { pass = now.pass; link = link }) turns (exchange many)
    part many added = run_refused environment before now link turns stream r.answers (take many (fault_octets why moment)) r.run left added

    in_part : (many : ℕ) → RefusesInPart environment.clock (exchange many)
    in_part many = record {
      why = why;
      answered = answered_all stream rest r.answers (ends_at why) r.spelled is r.still_open;
      still_open = r.still_open;
      moment = moment;
      moment_is = dated;
      many = many;
      printed_is = refl;
    }

    cut_at : (many : ℕ) → IsCutShort environment.clock (exchange many)
    cut_at many = record { missing = some.0; answered = some.1; front = inr (in_part many) }

    by_how : (how : How) → IsSent (fault_octets why moment) now.link link (Some how) → EndsIn environment before (record { pass = now.pass; link = link }) turns how
    by_how WriteFault s = record { exchange = exchange s.0.0; run = part s.0.0 s.0.2; ended = (cut_at s.0.0, inr (in_part s.0.0, s.0.1), rose_since before.link.faults now.link.faults link.faults r.faults falls s.1) }
    by_how NoMemory s = record { exchange = exchange s.0; run = part s.0 s.1; ended = cut_at s.0 }
    by_how Closed s = absurd s
    by_how CutInRequest s = absurd s
    by_how Limit s = absurd s
    by_how (WireRefused again) s = absurd s
    by_how ReadFault s = absurd s

-- What is due

module _ (environment : Environment) (before now : SessionState) (turns : List Served) where
  -- an open connection has room for a further request
  pub few_yet : (stream rest : List ℕ) → IsReached environment before now turns stream rest → length turns < request_limit
  few_yet stream rest r =
      let parts = open_parts (requests_of r.answers) r.still_open in
      let noted = ap length r.run.turns_are ∙ map_len (λ (answer : Answer). answer.turn) r.answers in
      let asked = map_len (λ (answer : Answer). answer.wire) r.answers in
      omega (arith, parts.1, noted, asked)

  pub waits : (old new : Wire) (w : IsUnderWay environment before now turns old) → NextIs Need w.rest new → IsWaiting environment before now turns new
  waits old new w is = record { stream = w.stream; rest = w.rest; reached = w.reached; stands = is.1; waits = is.0 }

  pub wants_memory : (wire : Wire) → IsUnderWay environment before now turns wire → EndsIn environment before now turns NoMemory
  wants_memory wire w =
      let some = answered_some w.stream w.rest w.reached.answers w.reached.spelled w.reached.still_open in
      record {
        exchange = whole_exchange w.stream w.reached.answers;
        run = w.reached.run;
        ended = record { missing = some.0; answered = some.1; front = inl (all_front w.reached.answers) };
      }
