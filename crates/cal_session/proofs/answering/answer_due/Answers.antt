use Rattle.std.proofs.Common.{◌≡◌, ◌+◌, ◌<◌, ◌∙◌, ap, sym, subst, refl, arith, Option, length}
use Rattle.std.specs.Prelude.{ℤ}
use Rattle.turn_lock.specs.Passes.{PassState}
use Rattle.cal_model.specs.History.Journal.{Entry}
use Rattle.cal_model.specs.Streams.WireLimits.{request_limit}
use Rattle.cal_model.specs.Users.UsersFile.{Users}
use Rattle.cal_session.specs.SessionStates.{SessionState, session_state}
use Rattle.cal_session.specs.UnderWay.{IsUnderWay, IsWaiting, StopsSo}
use Rattle.cal_session.proofs.AnswerLaws.{few_yet}
use Rattle.cal_session.proofs.SessionLaws.{seen_further}
use Rattle.cal_session.proofs.answering.answer_due.Goals as goal

pub due-init : goal.due-init
due-init g c = record {
  pass = refl;
  room = refl;
  session = λ before w. w;
  clock = refl;
  allowance = refl;
  never_falls = omega arith;
}

pub answer_next-requires-clause-same : goal.answer_next-requires-clause-same
answer_next-requires-clause-same g c κs within = ap (λ (p : PassState Entry Users). p.lock) c.due.invariant.pass ∙ c.requires.same

pub answer_next-requires-clause-free : goal.answer_next-requires-clause-free
answer_next-requires-clause-free g c κs within = ap (λ (p : PassState Entry Users). p.holds_turn) c.due.invariant.pass ∙ c.requires.free

pub answer_next-requires-clause-base : goal.answer_next-requires-clause-base
answer_next-requires-clause-base g c κs within = ap (λ (p : PassState Entry Users). p.base) c.due.invariant.pass ∙ c.requires.base

pub answer_next-requires-clause-few : goal.answer_next-requires-clause-few
answer_next-requires-clause-few g c κs within =
    let from = c.requires.under_way in
    let under = c.due.invariant.session from.0 from.1 in
    few_yet _ from.0 _ _ under.stream under.rest under.reached

pub answer_next-requires-clause-room : goal.answer_next-requires-clause-room
answer_next-requires-clause-room g c κs within =
    let from = c.requires.under_way in
    let under = c.due.invariant.session from.0 from.1 in
    let few : length c.due.turns.items < request_limit = few_yet _ from.0 _ _ under.stream under.rest under.reached in
    let same = c.due.invariant.room in
    let room = c.requires.room in
    omega (arith, few, same, room)

pub answer_next-requires-clause-stands : goal.answer_next-requires-clause-stands
answer_next-requires-clause-stands g c κs within =
    let from = c.requires.under_way in
    let under = c.due.invariant.session from.0 from.1 in
    (under.rest, under.stands)

pub due-preserved : goal.due-preserved
due-preserved g c =
    let users = c.args.context.now.users.now in
    let now : SessionState = session_state g.L.Link c.answer_next.new.pass c.answer_next.new.link in
    let kept = c.due.invariant in
    record {
      pass = seen_further c.args.pass.now c.due.pass c.answer_next.new.pass kept.pass c.answer_next.ensures.pass;
      room = c.answer_next.ensures.room ∙ kept.room;
      session = λ before w.
          subst (λ (clock : Option ℤ). IsUnderWay (record { users = users; clock = clock }) before now c.answer_next.new.turns.items c.answer_next.new.wire) (sym c.answer_next.ensures.clock)
          (c.in-Answered.ensures.session before (kept.session before w));
      clock = c.answer_next.ensures.clock ∙ kept.clock;
      allowance = c.answer_next.ensures.allowance ∙ kept.allowance;
      never_falls = (let first = c.answer_next.ensures.never_falls in let falls = kept.never_falls in omega (arith, first, falls));
    }

pub due-smaller : goal.due-smaller
due-smaller g c =
    let from = c.requires.under_way in
    let under = c.due.invariant.session from.0 from.1 in
    let few : length c.due.turns.items < request_limit = few_yet _ from.0 _ _ under.stream under.rest under.reached in
    let longer : length c.answer_next.new.turns.items ≡ length c.due.turns.items + 1 = c.in-Answered.ensures.longer in
    omega (arith, few, longer)

pub returns-in-Waits-clause-session : goal.returns-in-Waits-clause-session
returns-in-Waits-clause-session g c before w =
    let users = c.args.context.now.users.now in
    let now : SessionState = session_state g.L.Link c.answer_next.new.pass c.answer_next.new.link in
    let kept = c.due.invariant in
    subst (λ (clock : Option ℤ). IsWaiting (record { users = users; clock = clock }) before now c.answer_next.new.turns.items c.answer_next.new.wire) kept.clock
    (c.in-Waits.ensures.session before (kept.session before w))

pub returns-in-Stops-clause-session : goal.returns-in-Stops-clause-session
returns-in-Stops-clause-session g c before w =
    let users = c.args.context.now.users.now in
    let now : SessionState = session_state g.L.Link c.answer_next.new.pass c.answer_next.new.link in
    let kept = c.due.invariant in
    subst (λ (clock : Option ℤ). StopsSo (record { users = users; clock = clock }) before now c.answer_next.new.turns.items c.in-Stops.stop) kept.clock
    (c.in-Stops.ensures.session before (kept.session before w))

pub returns-in-Waits-clause-pass : goal.returns-in-Waits-clause-pass
returns-in-Waits-clause-pass g c = seen_further c.args.pass.now c.due.pass c.answer_next.new.pass c.due.invariant.pass c.answer_next.ensures.pass

pub returns-in-Waits-clause-room : goal.returns-in-Waits-clause-room
returns-in-Waits-clause-room g c = c.answer_next.ensures.room ∙ c.due.invariant.room

pub returns-in-Waits-clause-clock : goal.returns-in-Waits-clause-clock
returns-in-Waits-clause-clock g c = c.answer_next.ensures.clock ∙ c.due.invariant.clock

pub returns-in-Waits-clause-allowance : goal.returns-in-Waits-clause-allowance
returns-in-Waits-clause-allowance g c = c.answer_next.ensures.allowance ∙ c.due.invariant.allowance

pub returns-in-Waits-clause-never_falls : goal.returns-in-Waits-clause-never_falls
returns-in-Waits-clause-never_falls g c =
    let first = c.answer_next.ensures.never_falls in
    let falls = c.due.invariant.never_falls in
    omega (arith, first, falls)

pub returns-in-Stops-clause-pass : goal.returns-in-Stops-clause-pass
returns-in-Stops-clause-pass g c = seen_further c.args.pass.now c.due.pass c.answer_next.new.pass c.due.invariant.pass c.answer_next.ensures.pass

pub returns-in-Stops-clause-room : goal.returns-in-Stops-clause-room
returns-in-Stops-clause-room g c = c.answer_next.ensures.room ∙ c.due.invariant.room

pub returns-in-Stops-clause-clock : goal.returns-in-Stops-clause-clock
returns-in-Stops-clause-clock g c = c.answer_next.ensures.clock ∙ c.due.invariant.clock

pub returns-in-Stops-clause-allowance : goal.returns-in-Stops-clause-allowance
returns-in-Stops-clause-allowance g c = c.answer_next.ensures.allowance ∙ c.due.invariant.allowance

pub returns-in-Stops-clause-never_falls : goal.returns-in-Stops-clause-never_falls
returns-in-Stops-clause-never_falls g c =
    let first = c.answer_next.ensures.never_falls in
    let falls = c.due.invariant.never_falls in
    omega (arith, first, falls)
