use Rattle.std.proofs.Common.{◌≡◌, ◌+◌, ◌-◌, ◌≤◌, length}
use Rattle.cal_model.specs.Streams.WireLimits.{request_limit}
use Rattle.cal_session.specs.SessionStates.{SessionState, HasSeenMore, environment_of, session_state}
use Rattle.cal_session.specs.UnderWay.{IsUnderWay}
use Rattle.cal_session.proofs.answering.answer_due.Given as goal

abbrev pub invariant-due : goal.invariant-due
invariant-due g l = record {
  pass : HasSeenMore l.fn.pass l.pass;
  room : length l.turns.items + l.turns.room ≡ length l.fn.turns.items + l.fn.turns.room;
  session : (before : SessionState)
      → IsUnderWay (environment_of g.C.Clock l.context.users.now l.fn.clock) before (session_state g.L.Link l.fn.pass l.fn.link) l.fn.turns.items l.fn.wire
      → IsUnderWay (environment_of g.C.Clock l.context.users.now l.clock) before (session_state g.L.Link l.pass l.link) l.turns.items l.wire;
  clock : g.C.Clock.moment l.clock ≡ g.C.Clock.moment l.fn.clock;
  allowance : g.L.Link.allowance l.link ≡ g.L.Link.allowance l.fn.link;
  never_falls : g.L.Link.faults l.fn.link ≤ g.L.Link.faults l.link;
}

abbrev pub decreases-due : goal.decreases-due
decreases-due g l = request_limit - length l.turns.items
