use Rattle.turn_lock.proofs.Histories.{entries_added}
use Rattle.turn_lock.proofs.lock.TurnLock.give.Goals as goal

pub returns-clause-mine : goal.returns-clause-mine
returns-clause-mine g c rest is =
    entries_added g.B.Keeps.author c.args.pass.now.number c.args.pass.now.seen (g.B.Keeps.journal c.args.held.value) c.requires.added rest is
