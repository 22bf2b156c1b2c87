-- How the reading of a connection goes on: when octets come, and when something is due.
use Rattle.std.proofs.Common.{◌≡◌, ℕ, ◌+◌, ◌≤◌, true, false, List, [], ◌∷◌, ◌++◌, length, refl, sym, ap, subst, ◌∙◌, arith, append_assoc, length-append, ◌⊎◌, inl, inr}
use Rattle.std.proofs.lemmas.List.{append-nil}
use Rattle.std.proofs.lemmas.Bool.{false≢true}
use Rattle.cal_model.specs.declared.wire.WireFault.{WireFault}
use Rattle.cal_model.specs.declared.wire.WireRequest.{WireRequest}
use Rattle.cal_model.specs.Streams.Heads.{head_end, without_empty_lines}
use Rattle.cal_model.specs.Streams.StreamRequests.{Ending, ends_idle, ends_cut, ends_at, Ends, Spells, Begins, front, idle, cut, closes_after}
use Rattle.cal_model.specs.Streams.WireLimits.{body_limit}
use Rattle.cal_model.specs.Transcripts.ConnectionAnswers.{Completed, whole, faulty, is_open, answered, Completes}
use Rattle.cal_model.proofs.Streams.FrontLaws.{faults_stay}
use Rattle.cal_model.proofs.Streams.ReadingLaws.{streams_are_read, streams_grow}
use Rattle.http_wire.specs.Wires.{Stands, NextIs}
use Rattle.http_wire.specs.declared.wire.Next.TheVariants.{Request as NextRequest, Need, Fault as NextFault}
use Rattle.http_wire.specs.declared.wire.Wire.{Wire}
use Rattle.cal_script.specs.declared.connections.Connection.{Connection}
use Rattle.cal_script.specs.Readings.{numbered, IsOpenReading, IsClosedReading, IsReading, Rests}
use Rattle.cal_script.proofs.ConnectionLemmas.{numbered-push, answered_open, answered_front, answered_closed, open_behind}

-- Streams

spells_one : (stream : List ℕ) (requests : List WireRequest) (rest behind : List ℕ) (wire : WireRequest) → Spells stream requests rest → Begins rest wire behind → Spells stream (requests ++ wire ∷ []) behind
spells_one stream [] rest behind wire e b = (behind, subst (λ octets. Begins octets wire behind) (sym e) b, refl)
spells_one stream (first ∷ more) rest behind wire s b = (s.0, s.1, spells_one s.0 more rest behind wire s.2 b)

spells_more : (stream more : List ℕ) (requests : List WireRequest) (rest : List ℕ) → Spells stream requests rest → Spells (stream ++ more) requests (rest ++ more)
spells_more stream more requests rest s =
    subst (λ xs. Spells (stream ++ more) xs (rest ++ more)) (append-nil requests) (streams_grow stream more requests [] rest (rest ++ more) s refl)

-- Cases of a reading

open_case : (stream : List ℕ) (given : List Completed) (connection : Connection) → connection.closed ≡ false → IsReading stream given connection → IsOpenReading stream given connection
open_case stream given connection e (inl reading) = reading
open_case stream given connection e (inr reading) = absurd (false≢true (sym e ∙ reading.closed))

closed_case : (stream : List ℕ) (given : List Completed) (connection : Connection) → connection.closed ≡ true → IsReading stream given connection → IsClosedReading stream given connection
closed_case stream given connection e (inl reading) = absurd (false≢true (sym reading.still ∙ e))
closed_case stream given connection e (inr reading) = reading

-- Octets come

pub fed_open : (stream piece : List ℕ) (given : List Completed) (before after : Connection) → before.closed ≡ false → after.closed ≡ before.closed → after.answered ≡ before.answered
    → ((octets : List ℕ) → Stands octets before.wire → Stands (octets ++ piece) after.wire) → IsReading stream given before → IsReading (stream ++ piece) given after
fed_open stream piece given before after e same count fed reading =
    let open_ = open_case stream given before e reading in
    inl (record {
      still = same ∙ open_.still;
      requests = open_.requests;
      rest = open_.rest ++ piece;
      given_is = open_.given_is;
      none_closes = open_.none_closes;
      spelled = spells_more stream piece open_.requests open_.rest open_.spelled;
      stands = fed open_.rest open_.stands;
      counted = count ∙ open_.counted;
    })

-- Something is due

pub due_closed : (stream : List ℕ) (given : List Completed) (connection : Connection) → connection.closed ≡ true → IsReading stream given connection
    → IsReading stream given connection × Completes stream given
due_closed stream given connection e reading =
    (reading, subst (λ octets. Completes octets given) (append-nil stream) ((closed_case stream given connection e reading).all []))

-- behind a request that closes nothing is completed, whatever follows
last_of_all : (stream more : List ℕ) (requests : List WireRequest) (rest behind : List ℕ) (wire : WireRequest) → is_open requests ≡ true → Spells stream requests rest → Begins rest wire behind
    → closes_after (length requests) wire ≡ true → Completes (stream ++ more) (numbered requests ++ whole (length requests) wire ∷ [])
last_of_all stream more requests rest behind wire open_ spelled begins closes =
    let next = streams_are_read (behind ++ more) in
    record {
      requests = (requests ++ wire ∷ []) ++ next.0;
      rest = next.1;
      ending = next.2;
      reading = record {
        spelled = streams_grow stream more (requests ++ wire ∷ []) next.0 behind next.1 (spells_one stream requests rest behind wire spelled begins) next.3.spelled;
        ended = next.3.ended;
      };
      are_done = sym (ap (λ xs. answered xs next.2) (append_assoc requests (wire ∷ []) next.0) ∙ answered_closed requests next.0 wire next.2 open_ closes ∙ numbered-push requests wire);
    }

pub due_last : (stream : List ℕ) (given : List Completed) (before after : Connection) (wire : WireRequest) → before.closed ≡ false → after.closed ≡ true → closes_after before.answered wire ≡ true
    → ((octets : List ℕ) → Stands octets before.wire → NextIs (NextRequest wire) octets after.wire) → IsReading stream given before
    → IsReading stream (given ++ whole before.answered wire ∷ []) after
due_last stream given before after wire e closed closes next reading =
    let open_ = open_case stream given before e reading in
    let found = next open_.rest open_.stands in
    inr (record {
      closed = closed;
      all = λ more.
          subst (λ xs. Completes (stream ++ more) (xs ++ whole before.answered wire ∷ [])) (sym open_.given_is)
          (subst (λ n. Completes (stream ++ more) (numbered open_.requests ++ whole n wire ∷ [])) (sym open_.counted)
          (last_of_all stream more open_.requests open_.rest found.0 wire open_.none_closes open_.spelled found.1 (subst (λ n. closes_after n wire ≡ true) open_.counted closes)));
    })

pub due_request : (stream : List ℕ) (given : List Completed) (before after : Connection) (wire : WireRequest) → before.closed ≡ false → after.closed ≡ before.closed
    → after.answered ≡ before.answered + 1 → closes_after before.answered wire ≡ false
    → ((octets : List ℕ) → Stands octets before.wire → NextIs (NextRequest wire) octets after.wire) → IsReading stream given before
    → IsReading stream (given ++ whole before.answered wire ∷ []) after
due_request stream given before after wire e same count goes_on next reading =
    let open_ = open_case stream given before e reading in
    let found = next open_.rest open_.stands in
    inl (record {
      still = same ∙ e;
      requests = open_.requests ++ wire ∷ [];
      rest = found.0;
      given_is = ap (λ xs. xs ++ whole before.answered wire ∷ []) open_.given_is
          ∙ ap (λ n. numbered open_.requests ++ whole n wire ∷ []) open_.counted ∙ sym (numbered-push open_.requests wire);
      none_closes = open_behind open_.requests wire open_.none_closes (subst (λ n. closes_after n wire ≡ false) open_.counted goes_on);
      spelled = spells_one stream open_.requests open_.rest found.0 wire open_.spelled found.1;
      stands = found.2;
      counted = omega (arith, count, open_.counted, length-append open_.requests (wire ∷ []));
    })

pub due_short : (stream : List ℕ) (given : List Completed) (before : Connection) (after : Wire) (wire : WireRequest) → before.closed ≡ false
    → ((octets : List ℕ) → Stands octets before.wire → NextIs (NextRequest wire) octets after) → IsReading stream given before → length wire.body ≤ body_limit
due_short stream given before after wire e next reading =
    let open_ = open_case stream given before e reading in
    (next open_.rest open_.stands).3

ending_of : (octets : List ℕ) → (front octets ≡ idle) ⊎ (front octets ≡ cut) → (ending : Ending) × Ends octets ending × ((requests : List WireRequest) → is_open requests ≡ true → answered requests ending ≡ numbered requests)
ending_of octets (inl e) = (ends_idle, e, λ requests open_. answered_open requests ends_idle open_ ∙ append-nil (numbered requests))
ending_of octets (inr e) = (ends_cut, e, λ requests open_. answered_open requests ends_cut open_ ∙ append-nil (numbered requests))

pub due_nothing : (stream : List ℕ) (given : List Completed) (before after : Connection) → before.closed ≡ false → after.closed ≡ before.closed → after.answered ≡ before.answered
    → ((octets : List ℕ) → Stands octets before.wire → NextIs Need octets after.wire) → IsReading stream given before → IsReading stream given after × Completes stream given
due_nothing stream given before after e same count next reading =
    let open_ = open_case stream given before e reading in
    let found = next open_.rest open_.stands in
    let ending = ending_of open_.rest found.0 in (
      inl (record {
        still = same ∙ e;
        requests = open_.requests;
        rest = open_.rest;
        given_is = open_.given_is;
        none_closes = open_.none_closes;
        spelled = open_.spelled;
        stands = found.1;
        counted = count ∙ open_.counted;
      }),
      record {
        requests = open_.requests;
        rest = open_.rest;
        ending = ending.0;
        reading = record { spelled = open_.spelled; ended = ending.1 };
        are_done = open_.given_is ∙ sym (ending.2 open_.requests open_.none_closes);
      },
    )

pub due_fault : (stream : List ℕ) (given : List Completed) (before after : Connection) (why : WireFault) → before.closed ≡ false → after.closed ≡ true
    → ((octets : List ℕ) → Stands octets before.wire → NextIs (NextFault why) octets after.wire) → IsReading stream given before → IsReading stream (given ++ faulty why ∷ []) after
due_fault stream given before after why e closed next reading =
    let open_ = open_case stream given before e reading in
    let found = next open_.rest open_.stands in
    inr (record {
      closed = closed;
      all = λ more. record {
        requests = open_.requests;
        rest = open_.rest ++ more;
        ending = ends_at why;
        reading = record { spelled = spells_more stream more open_.requests open_.rest open_.spelled; ended = faults_stay open_.rest more why found.0 };
        are_done = ap (λ xs. xs ++ faulty why ∷ []) open_.given_is ∙ sym (answered_open open_.requests (ends_at why) open_.none_closes);
      };
    })

-- A connection on which nothing came

nothing_stands : front [] ≡ idle
unfolding front head_end without_empty_lines
nothing_stands = refl

pub rests_at_start : (connection : Connection) → connection.closed ≡ false → connection.answered ≡ 0 → Stands [] connection.wire → Rests [] connection
rests_at_start connection e none stands = record {
  given = [];
  reading = inl (record {
    still = e;
    requests = [];
    rest = [];
    given_is = refl;
    none_closes = refl;
    spelled = refl;
    stands = stands;
    counted = none;
  });
  all = record {
    requests = [];
    rest = [];
    ending = ends_idle;
    reading = record { spelled = refl; ended = nothing_stands };
    are_done = sym (answered_open [] ends_idle refl);
  };
}

-- What is given out stands in front of all that the octets complete

pub more_to_come : (stream : List ℕ) (given : List Completed) (connection : Connection) → IsReading stream given connection → (more : List Completed) × Completes stream (given ++ more)
more_to_come stream given connection (inl open_) =
    let next = streams_are_read open_.rest in
    let front_of = answered_front open_.requests next.0 next.2 open_.none_closes in
    let grown : Spells (stream ++ []) (open_.requests ++ next.0) next.1 =
    streams_grow stream [] open_.requests next.0 open_.rest next.1 open_.spelled (subst (λ octets. Spells octets next.0 next.1) (sym (append-nil open_.rest)) next.3.spelled) in (
      front_of.0,
      record {
        requests = open_.requests ++ next.0;
        rest = next.1;
        ending = next.2;
        reading = record { spelled = subst (λ octets. Spells octets (open_.requests ++ next.0) next.1) (append-nil stream) grown; ended = next.3.ended };
        are_done = ap (λ xs. xs ++ front_of.0) open_.given_is ∙ sym front_of.1;
      },
    )
more_to_come stream given connection (inr closed) =
    ([], subst (Completes stream) (sym (append-nil given)) (subst (λ octets. Completes octets given) (append-nil stream) (closed.all [])))
