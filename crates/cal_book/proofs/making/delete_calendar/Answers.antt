use Rattle.std.proofs.Common.{false, refl}
use Rattle.cal_model.specs.State.Changes.{delete_calendar}
use Rattle.cal_book.specs.Keeping.Deletions.{asked_entry}
use Rattle.cal_book.proofs.StepLemmas.{step-pieces, step-kept}
use Rattle.cal_book.proofs.making.delete_calendar.Goals as goal

pub returns-clause-pieces : goal.returns-clause-pieces
returns-clause-pieces g c =
    let change = delete_calendar c.args.home c.args.name.now in
    step-pieces c.args.history.now.journal c.delete_calendar.new.self.journal (asked_entry c.asked.result change) c.args.claims.now c.end_all.new.claims c.note.new.claims false
    c.delete_calendar.ensures.entries c.requires.kept c.end_all.ensures.board refl c.note.ensures

pub returns-clause-kept : goal.returns-clause-kept
returns-clause-kept g c =
    let change = delete_calendar c.args.home c.args.name.now in
    step-kept c.args.history.now.journal c.delete_calendar.new.self.journal (asked_entry c.asked.result change) c.args.claims.now c.end_all.new.claims c.note.new.claims false
    c.delete_calendar.ensures.entries c.requires.kept c.end_all.ensures.board refl c.note.ensures
