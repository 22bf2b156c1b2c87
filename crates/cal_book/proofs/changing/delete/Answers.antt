use Rattle.std.proofs.Common.{◌∷◌, ◌++◌, [], List, ℕ, sym, ap, ◌∙◌, subst}
use Rattle.std.specs.Prelude.{IsSome}
use Rattle.cal_model.specs.History.Journal.{entry_of}
use Rattle.cal_model.specs.State.Changes.{delete_object, delete_calendar, effect}
use Rattle.cal_model.specs.State.ServerState.{calendar_at, octets_at}
use Rattle.cal_book.specs.Keeping.KeptHistories.{IsNext, users_in, directory_in, state_in}
use Rattle.cal_book.proofs.ChangeLemmas.{object-deleted, calendar-deleted}
use Rattle.cal_book.proofs.EventLemmas.{journal-accepted}
use Rattle.cal_book.proofs.changing.delete.Goals as goal

pub delete_object-requires-clause-there : goal.delete_object-requires-clause-there
delete_object-requires-clause-there g c =
    let history = c.args.history.now in
    let deleted = object-deleted (directory_in history) (state_in history) c.args.event.now c.args.home c.in-Object.field-0 c.in-Object.calendar c.in-Object.name c.requires.bookable.size c.requires.deletes c.in-Object.is in
    subst (λ (p : List ℕ × List ℕ). IsSome (octets_at (state_in history) c.args.home p.0 p.1)) (λ i. (sym c.as_slice.ensures i, sym c.as_slice-in-Object.ensures i)) deleted.there

pub delete_object-requires-clause-next : goal.delete_object-requires-clause-next
delete_object-requires-clause-next g c =
    let history = c.args.history.now in
    let deleted = object-deleted (directory_in history) (state_in history) c.args.event.now c.args.home c.in-Object.field-0 c.in-Object.calendar c.in-Object.name c.requires.bookable.size c.requires.deletes c.in-Object.is in
    subst (λ (p : List ℕ × List ℕ). IsNext (directory_in history) (state_in history) (entry_of c.args.event.now (delete_object c.args.home p.0 p.1) 204))
    (λ i. (sym c.as_slice.ensures i, sym c.as_slice-in-Object.ensures i)) deleted.next

pub delete_calendar-requires-clause-there : goal.delete_calendar-requires-clause-there
delete_calendar-requires-clause-there g c =
    let history = c.args.history.now in
    let deleted = calendar-deleted (directory_in history) (state_in history) c.args.event.now c.args.home c.in-Calendar.field-0 c.in-Calendar.name c.requires.bookable.size c.requires.deletes c.in-Calendar.is in
    subst (λ name. IsSome (calendar_at (state_in history) c.args.home name)) (sym c.as_slice-in-Calendar.ensures) deleted.there

pub delete_calendar-requires-clause-next : goal.delete_calendar-requires-clause-next
delete_calendar-requires-clause-next g c =
    let history = c.args.history.now in
    let deleted = calendar-deleted (directory_in history) (state_in history) c.args.event.now c.args.home c.in-Calendar.field-0 c.in-Calendar.name c.requires.bookable.size c.requires.deletes c.in-Calendar.is in
    subst (λ name. IsNext (directory_in history) (state_in history) (entry_of c.args.event.now (delete_calendar c.args.home name) 204)) (sym c.as_slice-in-Calendar.ensures) deleted.next

pub returns-in-Object-clause-entered : goal.returns-in-Object-clause-entered
returns-in-Object-clause-entered g c =
    let history = c.args.history.now in
    let deleted = object-deleted (directory_in history) (state_in history) c.args.event.now c.args.home c.in-Object.field-0 c.in-Object.calendar c.in-Object.name c.requires.bookable.size c.requires.deletes c.in-Object.is in
    let change = delete_object c.args.home c.in-Object.calendar c.in-Object.name in
    journal-accepted (users_in history) c.args.event.now (state_in history) (effect change (state_in history)) history.journal c.delete_object.new.history.journal 204 change
    c.entries-entries.ensures.step.state_is deleted.asked_is deleted.accepted_is
    (c.delete_object.ensures.entries ∙ (λ i. history.journal ++ entry_of c.args.event.now (delete_object c.args.home (c.as_slice.ensures i) (c.as_slice-in-Object.ensures i)) 204 ∷ []))

pub returns-in-Calendar-clause-entered : goal.returns-in-Calendar-clause-entered
returns-in-Calendar-clause-entered g c =
    let history = c.args.history.now in
    let deleted = calendar-deleted (directory_in history) (state_in history) c.args.event.now c.args.home c.in-Calendar.field-0 c.in-Calendar.name c.requires.bookable.size c.requires.deletes c.in-Calendar.is in
    let change = delete_calendar c.args.home c.in-Calendar.name in
    journal-accepted (users_in history) c.args.event.now (state_in history) (effect change (state_in history)) history.journal c.delete_calendar.new.history.journal 204 change
    c.entries-entries.ensures.step.state_is deleted.asked_is deleted.accepted_is
    (c.delete_calendar.ensures.entries ∙ ap (λ name. history.journal ++ entry_of c.args.event.now (delete_calendar c.args.home name) 204 ∷ []) c.as_slice-in-Calendar.ensures)
