use Rattle.std.proofs.Common.{◌≤◌}
use Rattle.caldav_server.specs.ThreadPasses.{HasTakenTurns}
use Rattle.caldav_server.specs.Shares.{RoseBy}
use Rattle.caldav_server.proofs.sessions.serve_all.Given as goal

abbrev pub invariant-endless : goal.invariant-endless
invariant-endless g l = record {
  pass : HasTakenTurns l.fn.pass l.pass;
  faults : g.D.Door.faults l.fn.door ≤ g.D.Door.faults l.door;
}

abbrev pub invariant-share : goal.invariant-share
invariant-share g l = record {
  pass : HasTakenTurns l.fn.pass l.pass;
  tries : RoseBy l._connection (g.D.Door.tries l.fn.door) (g.D.Door.tries l.door);
  faults : g.D.Door.faults l.fn.door ≤ g.D.Door.faults l.door;
}
