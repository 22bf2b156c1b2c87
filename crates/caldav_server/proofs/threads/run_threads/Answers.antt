use denote.Param.Send.{sendable}
use Rattle.caldav_server.proofs.threads.run_threads.Goals as goal

pub scoped-requires : goal.scoped-requires
scoped-requires g c = record { at = λ a. (search sendable, (c.requires.pass, (c.requires.none, (c.requires.room, (c.requires.settings, search sendable))))) }
