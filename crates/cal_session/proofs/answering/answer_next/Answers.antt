use Rattle.cal_session.proofs.AnswerLaws.{waits, wants_memory}
use Rattle.cal_session.proofs.answering.answer_next.Goals as goal

pub answer_request-answered-requires-clause-body : goal.answer_request-answered-requires-clause-body
answer_request-answered-requires-clause-body g c κs within = (c.in-Request.ensures c.requires.stands.0 c.requires.stands.1).3

pub returns-in-Need-clause-session : goal.returns-in-Need-clause-session
returns-in-Need-clause-session g c before w = waits _ before _ _ c.args.wire.now c.next.new.self w (c.in-Need.ensures w.rest w.stands)

pub returns-in-NoMemory-clause-session : goal.returns-in-NoMemory-clause-session
returns-in-NoMemory-clause-session g c before w = wants_memory _ before _ _ c.args.wire.now w

pub returns-in-Fault-clause-session : goal.returns-in-Fault-clause-session
returns-in-Fault-clause-session g c before w =
    c.refuse.ensures.session before _ _ w.stream w.rest w.reached (c.in-Fault.ensures w.rest w.stands).0

pub returns-in-Ok-clause-session : goal.returns-in-Ok-clause-session
returns-in-Ok-clause-session g c before w =
    let next = c.in-Request.ensures w.rest w.stands in
    record { stream = w.stream; rest = next.0; reached = c.in-Ok.ensures.session before w.stream w.rest next.0 w.reached next.1; stands = next.2 }

pub returns-in-Err-clause-session : goal.returns-in-Err-clause-session
returns-in-Err-clause-session g c before w =
    let next = c.in-Request.ensures w.rest w.stands in
    c.in-Err.ensures.session before w.stream w.rest next.0 w.reached next.1
