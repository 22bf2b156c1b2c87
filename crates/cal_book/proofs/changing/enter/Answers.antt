use Rattle.cal_model.specs.History.KeptChanges.{kept_change}
use Rattle.cal_model.specs.State.Changes.{effect}
use Rattle.cal_book.specs.Keeping.KeptHistories.{users_in, directory_in, state_in}
use Rattle.cal_book.proofs.Keeping.AcceptedEntries.{is_next}
use Rattle.cal_book.proofs.ChangeLemmas.{on_ok}
use Rattle.cal_book.proofs.EventLemmas.{journal-accepted}
use Rattle.cal_book.proofs.changing.enter.Goals as goal

pub make-requires-clause-next : goal.make-requires-clause-next
make-requires-clause-next g c =
    let history = c.args.history.now in
    let made = c.requires.made in
    is_next (directory_in history) (state_in history) (effect (kept_change c.args.change) (state_in history)) c.args.event.now c.args.reply.now.status (kept_change c.args.change)
    c.requires.bookable.size made.asked_is made.accepted_is made.sound

pub returns-clause-entered : goal.returns-clause-entered
returns-clause-entered g c =
    let history = c.args.history.now in
    let made = c.requires.made in
    on_ok c.make.result
    (journal-accepted (users_in history) c.args.event.now (state_in history) (effect (kept_change c.args.change) (state_in history)) history.journal c.make.new.history.journal
    c.args.reply.now.status (kept_change c.args.change) c.entries-entries.ensures.step.state_is made.asked_is made.accepted_is)
    c.make.ensures.entries
