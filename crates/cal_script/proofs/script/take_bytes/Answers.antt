use Rattle.std.proofs.Common.{ℕ, List, arith, refl, sym, subst}
use Rattle.cal_script.specs.Readings.{Rests}
use Rattle.cal_script.specs.Standings.{running}
use Rattle.cal_script.proofs.AnsweringLemmas.{stops_on}
use Rattle.cal_script.proofs.ScriptLemmas.{some_stream, took_bytes, took_bytes_in_part, broke_in_bytes, sound_answered, bytes_entered}
use Rattle.cal_script.proofs.script.take_bytes.Goals as goal

pub answer_arrival-requires-clause-reads : goal.answer_arrival-requires-clause-reads
answer_arrival-requires-clause-reads g c κs bounds =
    subst (λ x. (stream : List ℕ) × Rests stream x) (sym c.index_mut-connection.ensures.value)
    (some_stream (running (g.B.Desk.book c.args.desk.now) c.args.script.now) c.args.arrival.connection c.index_mut-connection.result.now c.requires.stands (omega (arith, c.requires.bounds.connection_to, c.requires.sound.1.connections)))

pub returns-in-Ok-clause-turn : goal.returns-in-Ok-clause-turn
returns-in-Ok-clause-turn g c = λ standing stands.
    took_bytes _ standing (running (g.B.Desk.book c.args.desk.now) c.args.script.now) _ c.args.arrival.connection c.args.arrival.moment c.args.arrival.payload.now c.answer_arrival.new.connection c.index_mut-connection.result.now _ _ stands
    (omega (arith, c.requires.bounds.connection_to, c.requires.sound.1.connections)) refl
    (λ stream rests. c.in-Ok.ensures.all stream (subst (Rests stream) (sym c.index_mut-connection.ensures.value) rests))
    (λ stream rests. c.in-Ok.ensures.rests stream (subst (Rests stream) (sym c.index_mut-connection.ensures.value) rests))

pub returns-in-Ok-clause-sound : goal.returns-in-Ok-clause-sound
returns-in-Ok-clause-sound g c = λ kept sound.
    sound_answered c.args.users.now kept (running (g.B.Desk.book c.args.desk.now) c.args.script.now) _ c.args.arrival.connection c.args.arrival.moment c.args.arrival.payload.now c.answer_arrival.new.connection c.index_mut-connection.result.now sound
    c.requires.stands (omega (arith, c.requires.bounds.connection_to, c.requires.sound.1.connections)) c.answer_arrival.ensures.book
    (λ stream rests. c.answer_arrival.ensures.goes_on stream (subst (Rests stream) (sym c.index_mut-connection.ensures.value) rests)) refl refl

pub returns-in-Ok-clause-entered : goal.returns-in-Ok-clause-entered
returns-in-Ok-clause-entered g c = λ standing stands.
    bytes_entered c.args.users.now standing (running (g.B.Desk.book c.args.desk.now) c.args.script.now) (g.B.Desk.book c.answer_arrival.new.desk) c.args.arrival.connection c.args.arrival.moment c.args.arrival.payload.now c.index_mut-connection.result.now stands
    (omega (arith, c.requires.bounds.connection_to, c.requires.sound.1.connections)) (λ stream rests. c.answer_arrival.ensures.goes_on stream (subst (Rests stream) (sym c.index_mut-connection.ensures.value) rests))

pub returns-in-Err-clause-stopped : goal.returns-in-Err-clause-stopped
returns-in-Err-clause-stopped g c =
    stops_on c.in-Err.stop _ _ _ _
    (λ part standing stands. took_bytes_in_part _ standing (running (g.B.Desk.book c.args.desk.now) c.args.script.now) c.args.arrival.connection c.args.arrival.moment c.args.arrival.payload.now c.index_mut-connection.result.now _ _ stands
    (omega (arith, c.requires.bounds.connection_to, c.requires.sound.1.connections))
    (λ stream rests. part stream (subst (Rests stream) (sym c.index_mut-connection.ensures.value) rests)))
    (λ broke standing stands. broke_in_bytes _ standing (running (g.B.Desk.book c.args.desk.now) c.args.script.now) c.args.arrival.connection c.args.arrival.moment c.args.arrival.payload.now c.index_mut-connection.result.now _ _ stands
    (omega (arith, c.requires.bounds.connection_to, c.requires.sound.1.connections))
    (λ stream rests. broke stream (subst (Rests stream) (sym c.index_mut-connection.ensures.value) rests)))
    c.in-Err.ensures.stopped

pub returns-in-Err-clause-sound : goal.returns-in-Err-clause-sound
returns-in-Err-clause-sound g c = λ kept sound.
    sound_answered c.args.users.now kept (running (g.B.Desk.book c.args.desk.now) c.args.script.now) _ c.args.arrival.connection c.args.arrival.moment c.args.arrival.payload.now c.answer_arrival.new.connection c.index_mut-connection.result.now sound
    c.requires.stands (omega (arith, c.requires.bounds.connection_to, c.requires.sound.1.connections)) c.answer_arrival.ensures.book
    (λ stream rests. c.answer_arrival.ensures.goes_on stream (subst (Rests stream) (sym c.index_mut-connection.ensures.value) rests)) refl refl

pub returns-in-Err-clause-entered : goal.returns-in-Err-clause-entered
returns-in-Err-clause-entered g c = λ standing stands.
    bytes_entered c.args.users.now standing (running (g.B.Desk.book c.args.desk.now) c.args.script.now) (g.B.Desk.book c.answer_arrival.new.desk) c.args.arrival.connection c.args.arrival.moment c.args.arrival.payload.now c.index_mut-connection.result.now stands
    (omega (arith, c.requires.bounds.connection_to, c.requires.sound.1.connections)) (λ stream rests. c.answer_arrival.ensures.goes_on stream (subst (Rests stream) (sym c.index_mut-connection.ensures.value) rests))
