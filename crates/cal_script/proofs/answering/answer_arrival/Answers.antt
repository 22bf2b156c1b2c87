use Rattle.std.proofs.Common.{arith, refl, ◌++◌, ◌∙◌}
use Rattle.cal_model.specs.Transcripts.ConnectionAnswers.{whole, faulty}
use Rattle.cal_script.proofs.AnsweringLemmas.{answering_starts, stopped_before, all_answered, stopped_there, fault_answered, fault_cut_short, request_answered, request_cut_short, request_broke, stops_on, broken_on}
use Rattle.cal_script.proofs.EnteringLemmas.{goes_on_none, gone_nowhere, gone_further, gone_so_far, gone_without}
use Rattle.cal_script.proofs.answering.answer_arrival.Goals as goal

pub due-init : goal.due-init
due-init g c = record {
  far = λ stream rests. answering_starts _ _ _ stream c.args.arrival.payload.now c.args.connection.now _ _ _ rests (λ given reading. c.in-Ok.ensures stream given reading);
  on = λ stream rests. gone_nowhere _ _ _ stream c.args.arrival.payload.now c.args.connection.now _ _ rests (λ given reading. c.in-Ok.ensures stream given reading);
  book = c.requires.book;
  broken = refl;
  desk_count = omega arith;
  count = omega arith;
}

pub returns-in_default-clause-stopped : goal.returns-in_default-clause-stopped
returns-in_default-clause-stopped g c = λ stream rests. stopped_before _ _ _ stream _ c.args.connection.now _ _ rests

pub returns-in_default-clause-goes_on : goal.returns-in_default-clause-goes_on
returns-in_default-clause-goes_on g c = λ stream rests. gone_without _ _ _ stream c.args.arrival.payload.now c.args.connection.now _ rests

pub returns-in-Nothing-clause-all : goal.returns-in-Nothing-clause-all
returns-in-Nothing-clause-all g c = λ stream rests.
    (all_answered _ _ _ stream c.args.arrival.payload.now c.due.connection c.next.new.self _ _ _ _ (c.due.invariant.far stream rests)
    (λ given reading. c.in-Nothing.ensures.due (stream ++ c.args.arrival.payload.now) given reading)).0

pub returns-in-Nothing-clause-rests : goal.returns-in-Nothing-clause-rests
returns-in-Nothing-clause-rests g c = λ stream rests.
    (all_answered _ _ _ stream c.args.arrival.payload.now c.due.connection c.next.new.self _ _ _ _ (c.due.invariant.far stream rests)
    (λ given reading. c.in-Nothing.ensures.due (stream ++ c.args.arrival.payload.now) given reading)).1

pub returns-in-Nothing-clause-goes_on : goal.returns-in-Nothing-clause-goes_on
returns-in-Nothing-clause-goes_on g c = λ stream rests. gone_so_far _ _ _ stream c.args.arrival.payload.now c.due.connection _ _ (c.due.invariant.on stream rests)

pub returns-in-NoMemory-clause-goes_on : goal.returns-in-NoMemory-clause-goes_on
returns-in-NoMemory-clause-goes_on g c = λ stream rests. gone_so_far _ _ _ stream c.args.arrival.payload.now c.due.connection _ _ (c.due.invariant.on stream rests)

pub returns-in-NoMemory-clause-stopped : goal.returns-in-NoMemory-clause-stopped
returns-in-NoMemory-clause-stopped g c = λ stream rests.
    stopped_there _ _ _ stream c.args.arrival.payload.now c.due.connection c.next.new.self _ _ _ _ (c.due.invariant.far stream rests)
    (λ given reading. c.in-NoMemory.ensures.due (stream ++ c.args.arrival.payload.now) given reading)

pub answer_request-requires-clause-body : goal.answer_request-requires-clause-body
answer_request-requires-clause-body g c κs bounds =
    let far = c.due.invariant.far c.requires.reads.0 c.requires.reads.1 in
    c.in-Request.ensures.short (c.requires.reads.0 ++ c.args.arrival.payload.now) (far.done ++ far.more) far.reading

pub due-preserved-in-Ok-answer_fault : goal.due-preserved-in-Ok-answer_fault
due-preserved-in-Ok-answer_fault g c = record {
  far = λ stream rests.
      fault_answered _ _ _ c.in-Fault.why stream c.args.arrival.payload.now c.due.connection c.next.new.self _ _ _ _ _ (c.due.invariant.far stream rests)
      (λ given reading. c.in-Fault.ensures.due (stream ++ c.args.arrival.payload.now) given reading) c.in-Ok-answer_fault.ensures.whole;
  on = λ stream rests.
      gone_further _ _ _ stream c.args.arrival.payload.now c.due.connection c.next.new.self (faulty c.in-Fault.why) _ _ _ (c.due.invariant.on stream rests)
      (λ given reading. c.in-Fault.ensures.due (stream ++ c.args.arrival.payload.now) given reading) (goes_on_none _ _ _);
  book = c.due.invariant.book;
  broken = c.due.invariant.broken;
  desk_count = c.due.invariant.desk_count;
  count = omega (arith, c.in-Ok-answer_fault.ensures.never_falls);
}

pub returns-in-Err-clause-stopped : goal.returns-in-Err-clause-stopped
returns-in-Err-clause-stopped g c = λ stream rests.
    fault_cut_short _ _ _ c.answer_fault.ensures.in_part.0 c.in-Fault.why stream c.args.arrival.payload.now c.due.connection c.next.new.self _ _ _ _ _ (c.due.invariant.far stream rests)
    (λ given reading. c.in-Fault.ensures.due (stream ++ c.args.arrival.payload.now) given reading) c.answer_fault.ensures.in_part.1

pub returns-in-Err-clause-goes_on : goal.returns-in-Err-clause-goes_on
returns-in-Err-clause-goes_on g c = λ stream rests. gone_so_far _ _ _ stream c.args.arrival.payload.now c.due.connection _ _ (c.due.invariant.on stream rests)

pub due-preserved : goal.due-preserved
due-preserved g c = record {
  far = λ stream rests.
      request_answered _ _ _ c.in-Request.before c.in-Request.wire stream c.args.arrival.payload.now c.due.connection c.next.new.self _ _ _ _ _ _ (c.due.invariant.far stream rests)
      (λ given reading. c.in-Request.ensures.due (stream ++ c.args.arrival.payload.now) given reading) c.in-Ok-answer_request.ensures.whole;
  on = λ stream rests.
      gone_further _ _ _ stream c.args.arrival.payload.now c.due.connection c.next.new.self (whole c.in-Request.before c.in-Request.wire) _ _ _ (c.due.invariant.on stream rests)
      (λ given reading. c.in-Request.ensures.due (stream ++ c.args.arrival.payload.now) given reading) c.in-Ok-answer_request.ensures.goes_on;
  book = c.in-Ok-answer_request.ensures.book;
  broken = c.in-Ok-answer_request.ensures.broken ∙ c.due.invariant.broken;
  desk_count = omega (arith, c.in-Ok-answer_request.ensures.desk_never_falls);
  count = omega (arith, c.in-Ok-answer_request.ensures.never_falls);
}

pub returns-in-Err-answer_request-clause-stopped : goal.returns-in-Err-answer_request-clause-stopped
returns-in-Err-answer_request-clause-stopped g c =
    stops_on c.in-Err-answer_request.stop _ _ _ _
    (λ part stream rests. request_cut_short _ _ _ c.in-Request.before c.in-Request.wire stream c.args.arrival.payload.now c.due.connection c.next.new.self _ _ _ _ _ (c.due.invariant.far stream rests)
    (λ given reading. c.in-Request.ensures.due (stream ++ c.args.arrival.payload.now) given reading) part)
    (λ same stream rests. request_broke _ _ _ c.in-Request.before c.in-Request.wire stream c.args.arrival.payload.now c.due.connection c.next.new.self _ _ _ _ _ (c.due.invariant.far stream rests)
    (λ given reading. c.in-Request.ensures.due (stream ++ c.args.arrival.payload.now) given reading) same)
    c.in-Err-answer_request.ensures.stopped

pub returns-in-Err-answer_request-clause-goes_on : goal.returns-in-Err-answer_request-clause-goes_on
returns-in-Err-answer_request-clause-goes_on g c = λ stream rests.
    gone_so_far _ _ _ stream c.args.arrival.payload.now c.next.new.self _ _
    (gone_further _ _ _ stream c.args.arrival.payload.now c.due.connection c.next.new.self (whole c.in-Request.before c.in-Request.wire) _ _ _ (c.due.invariant.on stream rests)
    (λ given reading. c.in-Request.ensures.due (stream ++ c.args.arrival.payload.now) given reading) c.in-Err-answer_request.ensures.goes_on)

pub returns-in-Err-answer_request-clause-broken : goal.returns-in-Err-answer_request-clause-broken
returns-in-Err-answer_request-clause-broken g c =
    broken_on c.in-Err-answer_request.stop _ _ _ _ _ _ c.due.invariant.broken c.due.invariant.desk_count c.in-Err-answer_request.ensures.desk_never_falls c.in-Err-answer_request.ensures.broken
