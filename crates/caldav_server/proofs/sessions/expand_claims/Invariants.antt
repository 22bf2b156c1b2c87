use Rattle.caldav_server.specs.ThreadPasses.{HasTakenTurns}
use Rattle.caldav_server.proofs.sessions.expand_claims.Given as goal

abbrev pub invariant-working : goal.invariant-working
invariant-working g l = HasTakenTurns l.fn.pass l.pass
