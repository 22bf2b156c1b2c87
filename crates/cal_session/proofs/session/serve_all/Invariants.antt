use Rattle.std.proofs.Common.{◌≡◌, ◌+◌, ◌≤◌, ◌<◌, length}
use Rattle.cal_model.specs.Streams.WireLimits.{request_limit}
use Rattle.cal_session.specs.SessionStates.{HasSeenMore, environment_of, session_state}
use Rattle.cal_session.specs.UnderWay.{IsUnderWay}
use Rattle.cal_session.proofs.session.serve_all.Given as goal

abbrev pub invariant-reading : goal.invariant-reading
invariant-reading g l = record {
  pass : HasSeenMore l.fn.pass l.pass;
  place : 0 < length l.piece;
  room : request_limit ≤ length l.turns.items + l.turns.room;
  session : IsUnderWay (environment_of g.C.Clock l.context.users.now l.clock) (session_state g.L.Link l.fn.pass l.fn.link) (session_state g.L.Link l.pass l.link) l.turns.items l.wire;
  clock : g.C.Clock.moment l.clock ≡ g.C.Clock.moment l.fn.clock;
  never_falls : g.L.Link.faults l.fn.link ≤ g.L.Link.faults l.link;
}

abbrev pub decreases-reading : goal.decreases-reading
decreases-reading g l = g.L.Link.allowance l.link
