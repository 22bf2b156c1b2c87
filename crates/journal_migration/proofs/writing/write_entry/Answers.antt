use Rattle.std.proofs.Common.{sym}
use Rattle.cal_journal.specs.KeptEntries.{kept_entry}
use Rattle.journal_migration.proofs.WriteLaws.{form_at, written, none_written}
use Rattle.journal_migration.proofs.writing.write_entry.Goals as goal

pub add-requires-clause-form : goal.add-requires-clause-form
add-requires-clause-form g c =
    form_at c.args.users.now c.args.book.now.work.journal c.args.number (kept_entry c.in-Some.entry.now) c.args.draft.now.principals c.requires.recorded (sym c.in-Some.ensures) c.requires.principals

pub returns-in-Some-clause-written : goal.returns-in-Some-clause-written
returns-in-Some-clause-written g c =
    written g.D.Disk.past c.args.book.now.work.journal c.args.number (kept_entry c.in-Some.entry.now) c.args.draft.now c.add.new.self c.add.result (sym c.in-Some.ensures) c.add.ensures.drafts c.add.ensures.principals c.add.ensures.broken

pub returns-in-None-clause-written : goal.returns-in-None-clause-written
returns-in-None-clause-written g c = none_written g.D.Disk.past c.args.book.now.work.journal c.args.number c.args.draft.now (sym c.in-None.ensures)
