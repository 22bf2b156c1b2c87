use Rattle.cases_server.proofs.walk.take_step.Goals as goal

pub returns-in-101-clause-slot : goal.returns-in-101-clause-slot
returns-in-101-clause-slot g c = c.expand_slot.ensures c.args.book.now.work.journal c.requires.slot
