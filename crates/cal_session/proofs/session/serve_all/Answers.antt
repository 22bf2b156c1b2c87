use Rattle.std.proofs.Common.{◌∙◌, sym, subst, refl, arith, List, Option}
use Rattle.std.specs.Prelude.{ℤ}
use Rattle.cal_session.specs.SessionStates.{SessionState, environment_of, session_state}
use Rattle.cal_session.specs.UnderWay.{IsUnderWay, EndsIn, StopsSo}
use Rattle.cal_session.specs.declared.served.Served.{Served}
use Rattle.cal_session.proofs.SessionLaws.{seen_further}
use Rattle.cal_session.proofs.StartLaws.{begun}
use Rattle.cal_session.proofs.session.serve_all.Goals as goal

pub reading-init : goal.reading-init
reading-init g c =
    let environment = environment_of g.C.Clock c.args.context.now.users.now c.args.clock.now in
    let start : SessionState = session_state g.L.Link c.args.pass.now c.args.link.now in
    let wire = c.args.wire.now in
    record {
      pass = refl;
      place = c.requires.place;
      room = (let room = c.requires.room in omega (arith, room));
      session = subst (λ (turns : List Served). IsUnderWay environment start start turns wire) (sym c.requires.none) (begun environment start wire c.requires.new);
      clock = refl;
      never_falls = omega arith;
    }

pub answer_due-requires-clause-under_way : goal.answer_due-requires-clause-under_way
answer_due-requires-clause-under_way g c lifetimes lives = (session_state g.L.Link c.args.pass.now c.args.link.now, c.reading.invariant.session)

pub returns-in-Err-clause-session : goal.returns-in-Err-clause-session
returns-in-Err-clause-session g c =
    let users = c.args.context.now.users.now in
    let before : SessionState = session_state g.L.Link c.args.pass.now c.args.link.now in
    let after : SessionState = session_state g.L.Link c.answer_due.new.pass c.answer_due.new.link in
    let kept = c.reading.invariant in
    subst (λ (clock : Option ℤ). StopsSo (record { users = users; clock = clock }) before after c.answer_due.new.turns.items c.in-Err.stop) kept.clock (c.in-Err.ensures.session before kept.session)

pub returns-in-Err-clause-pass : goal.returns-in-Err-clause-pass
returns-in-Err-clause-pass g c = seen_further c.args.pass.now c.reading.pass c.answer_due.new.pass c.reading.invariant.pass c.answer_due.ensures.pass

pub returns-in-Err-clause-clock : goal.returns-in-Err-clause-clock
returns-in-Err-clause-clock g c = c.answer_due.ensures.clock ∙ c.reading.invariant.clock

pub returns-in-Err-clause-never_falls : goal.returns-in-Err-clause-never_falls
returns-in-Err-clause-never_falls g c =
    let first = c.reading.invariant.never_falls in
    let second = c.answer_due.ensures.never_falls in
    omega (arith, first, second)

pub returns-in-Some-clause-pass : goal.returns-in-Some-clause-pass
returns-in-Some-clause-pass g c = seen_further c.args.pass.now c.reading.pass c.answer_due.new.pass c.reading.invariant.pass c.answer_due.ensures.pass

pub returns-in-Some-clause-clock : goal.returns-in-Some-clause-clock
returns-in-Some-clause-clock g c = c.answer_due.ensures.clock ∙ c.reading.invariant.clock

pub returns-in-Some-clause-never_falls : goal.returns-in-Some-clause-never_falls
returns-in-Some-clause-never_falls g c =
    let first = c.reading.invariant.never_falls in
    let second = c.answer_due.ensures.never_falls in
    let third = c.take_piece.ensures.never_falls in
    omega (arith, first, second, third)

pub returns-in-Some-clause-session : goal.returns-in-Some-clause-session
returns-in-Some-clause-session g c =
    let users = c.args.context.now.users.now in
    let before : SessionState = session_state g.L.Link c.args.pass.now c.args.link.now in
    let after : SessionState = session_state g.L.Link c.answer_due.new.pass c.take_piece.new.link in
    let kept = c.reading.invariant in
    let turns = c.answer_due.new.turns.items in
    let waits = c.in-Ok.ensures.session before kept.session in
    subst (λ (clock : Option ℤ). EndsIn (record { users = users; clock = clock }) before after turns c.in-Some.how) kept.clock
    (c.in-Some.ensures.session (environment_of g.C.Clock users c.reading.clock) before c.answer_due.new.pass turns waits)

pub reading-preserved : goal.reading-preserved
reading-preserved g c =
    let users = c.args.context.now.users.now in
    let before : SessionState = session_state g.L.Link c.args.pass.now c.args.link.now in
    let after : SessionState = session_state g.L.Link c.answer_due.new.pass c.take_piece.new.link in
    let kept = c.reading.invariant in
    let turns = c.answer_due.new.turns.items in
    let waits = c.in-Ok.ensures.session before kept.session in
    record {
      pass = seen_further c.args.pass.now c.reading.pass c.answer_due.new.pass kept.pass c.answer_due.ensures.pass;
      place = (let len = c.take_piece.ensures.place in let some = kept.place in omega (arith, len, some));
      room = (let same = c.answer_due.ensures.room in let room = kept.room in omega (arith, same, room));
      session = subst (λ (clock : Option ℤ). IsUnderWay (record { users = users; clock = clock }) before after turns c.take_piece.new.wire) (sym c.answer_due.ensures.clock)
          (c.in-None.ensures.session (environment_of g.C.Clock users c.reading.clock) before c.answer_due.new.pass turns waits);
      clock = c.answer_due.ensures.clock ∙ kept.clock;
      never_falls = (let first = c.answer_due.ensures.never_falls in let second = c.take_piece.ensures.never_falls in let falls = kept.never_falls in omega (arith, first, second, falls));
    }

pub reading-smaller : goal.reading-smaller
reading-smaller g c =
    let fewer = c.in-None.ensures.fewer refl in
    let same = c.answer_due.ensures.allowance in
    omega (arith, fewer, same)
