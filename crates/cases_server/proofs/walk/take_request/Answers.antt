use Rattle.std.proofs.Common.{sym, subst, List}
use Rattle.cal_model.specs.History.Journal.{Entry}
use Rattle.cases_server.specs.Slots.{IsSlotIn}
use Rattle.cases_server.proofs.SlotLemmas.{slot_stays}
use Rattle.cases_server.proofs.walk.take_request.Goals as goal

pub returns-clause-slot : goal.returns-clause-slot
returns-clause-slot g c =
    let more = c.answer.ensures.grows in
    subst (λ (journal : List Entry). IsSlotIn journal c.args.slot.now) (sym more.1) (slot_stays c.args.book.now.work.journal more.0 c.args.slot.now c.requires.slot)
