use Rattle.journal_migration.proofs.CarryLaws.{bookable, from_1970, to_9999, asks}
use Rattle.journal_migration.proofs.carrying.carry.Goals as goal

pub ask_again-requires-clause-bookable : goal.ask_again-requires-clause-bookable
ask_again-requires-clause-bookable g c =
    bookable c.file_laws.ensures.bookable c.args.old_users.now c.len-old.ensures.told c.args.event c.args.status c.requires.recorded.0 c.requires.recorded.1 c.args.books.now.source c.requires.books_of.source

pub ask_again-requires-clause-from_1970 : goal.ask_again-requires-clause-from_1970
ask_again-requires-clause-from_1970 g c =
    from_1970 c.file_laws.ensures.bookable c.args.old_users.now c.len-old.ensures.told c.args.event c.args.status c.requires.recorded.0 c.requires.recorded.1

pub ask_again-requires-clause-to_9999 : goal.ask_again-requires-clause-to_9999
ask_again-requires-clause-to_9999 g c =
    to_9999 c.file_laws.ensures.bookable c.args.old_users.now c.len-old.ensures.told c.args.event c.args.status c.requires.recorded.0 c.requires.recorded.1

pub ask_again-requires-clause-asks : goal.ask_again-requires-clause-asks
ask_again-requires-clause-asks g c =
    asks c.file_laws.ensures.bookable c.args.old_users.now c.len-old.ensures.told c.args.event c.args.status c.requires.recorded.0 c.requires.recorded.1 c.args.books.now.source c.requires.books_of.source
