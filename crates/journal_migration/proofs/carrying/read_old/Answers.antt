use Rattle.journal_migration.proofs.OpenLaws.{begun, read_from, refused_journal, refused_users, unwritten}
use Rattle.journal_migration.proofs.carrying.read_old.Goals as goal

pub read_all-requires-clause-into : goal.read_all-requires-clause-into
read_all-requires-clause-into g c =
    let opened = c.in-Ready.ensures.opened in
    begun g.D.Disk.past c.args.old_users.now c.args.new_users.now c.args.books.now c.in-Ready.reader c.requires.begun opened.2 opened.1

pub returns-in-Ready-clause-read : goal.returns-in-Ready-clause-read
returns-in-Ready-clause-read g c =
    read_from g.D.Disk.past g.D.Disk.faults c.args.old_users.now c.args.new_users.now c.args.from c.in-Ready.reader.disk c.read_all.result.1 c.read_all.new.books c.in-Ready.ensures.opened.0 c.read_all.result.0
    c.in-Ready.ensures.never_falls c.read_all.ensures.never_falls c.read_all.ensures.read

pub returns-in-Ready-clause-unwritten : goal.returns-in-Ready-clause-unwritten
returns-in-Ready-clause-unwritten g c =
    unwritten g.D.Disk.past g.D.Disk.faults c.args.old_users.now c.args.new_users.now c.args.from c.in-Ready.reader.disk c.read_all.result.1 c.read_all.new.books c.in-Ready.ensures.opened.0 c.read_all.ensures.past_kept

pub returns-in-NotJournal-clause-read : goal.returns-in-NotJournal-clause-read
returns-in-NotJournal-clause-read g c = refused_journal c.args.old_users.now (g.D.Disk.past c.args.from) c.in-NotJournal.ensures.rightly c.in-NotJournal.ensures.opened

pub returns-in-OtherUsers-clause-read : goal.returns-in-OtherUsers-clause-read
returns-in-OtherUsers-clause-read g c = refused_users c.args.old_users.now (g.D.Disk.past c.args.from) c.in-OtherUsers.ensures.rightly c.in-OtherUsers.place c.in-OtherUsers.ensures.opened
