use Rattle.std.proofs.Common.{sym, subst}
use Rattle.cal_model.specs.declared.request.Event.{Event}
use Rattle.cal_keeper.specs.Files.NextEntries.{IsEventOf}
use Rattle.journal_migration.specs.Carrying.{IsAskedOn}
use Rattle.journal_migration.specs.Renumbering.{moved_entry}
use Rattle.journal_migration.proofs.CarryLaws.{own_bookable, event_moved}
use Rattle.journal_migration.proofs.carrying.carry_moved.Goals as goal

pub moved_event-requires-clause-known : goal.moved_event-requires-clause-known
moved_event-requires-clause-known g c =
    (own_bookable c.file_laws.ensures.bookable c.args.old_users.now c.len-old.ensures.told c.args.event c.args.status c.requires.recorded.0 c.requires.recorded.1).user

pub moved_event-requires-clause-grants : goal.moved_event-requires-clause-grants
moved_event-requires-clause-grants g c =
    (own_bookable c.file_laws.ensures.bookable c.args.old_users.now c.len-old.ensures.told c.args.event c.args.status c.requires.recorded.0 c.requires.recorded.1).grants

pub ask_moved-end-requires-clause-recorded : goal.ask_moved-end-requires-clause-recorded
ask_moved-end-requires-clause-recorded g c =
    let entry = moved_entry c.args.old_users.now c.args.new_users.now c.requires.recorded.0 in (
      entry,
      subst (λ (e : Event). IsEventOf c.args.new_users.now e c.args.status entry) (sym c.in-Ok.ensures)
          (event_moved c.args.old_users.now c.args.new_users.now c.requires.all c.args.event c.args.status c.requires.recorded.0 c.requires.recorded.1),
    )

pub returns-in-Ok-clause-carried : goal.returns-in-Ok-clause-carried
returns-in-Ok-clause-carried g c =
    subst (λ (e : Event). IsAskedOn e c.args.status c.args.target.now c.ask_moved-end.new.target c.ask_moved-end.result) c.in-Ok.ensures c.ask_moved-end.ensures.carried
