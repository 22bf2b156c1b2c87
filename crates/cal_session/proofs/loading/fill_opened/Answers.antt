use Rattle.cal_session.proofs.LoadLaws.{begun, loaded_as_read, refused_journal, refused_users}
use Rattle.cal_session.proofs.loading.fill_opened.Goals as goal

pub read_all-requires : goal.read_all-requires
read_all-requires g c =
    let opened = c.in-Ready.ensures.opened in
    begun g.D.Disk.past c.args.users.now c.args.book.now c.in-Ready.reader c.requires.users c.requires.out c.requires.journal opened.2 opened.3 opened.1

pub returns-in-Ready-clause-loaded : goal.returns-in-Ready-clause-loaded
returns-in-Ready-clause-loaded g c =
    loaded_as_read g.D.Disk.past g.D.Disk.faults c.args.users.now c.args.disk c.in-Ready.reader.disk c.in-Ready.ensures.opened.0 c.read_all.new.book c.read_all.result
    c.in-Ready.ensures.never_falls c.read_all.ensures.never_falls c.requires.some c.read_all.ensures.read

pub returns-in-NotJournal-clause-loaded : goal.returns-in-NotJournal-clause-loaded
returns-in-NotJournal-clause-loaded g c =
    refused_journal g.D.Disk.past c.args.users.now c.args.disk c.in-NotJournal.disk c.requires.some c.in-NotJournal.ensures.unwritten c.in-NotJournal.ensures.rightly c.in-NotJournal.ensures.opened

pub returns-in-OtherUsers-clause-loaded : goal.returns-in-OtherUsers-clause-loaded
returns-in-OtherUsers-clause-loaded g c =
    refused_users g.D.Disk.past c.args.users.now c.args.disk c.in-OtherUsers.disk c.requires.some c.in-OtherUsers.ensures.unwritten c.in-OtherUsers.ensures.rightly c.in-OtherUsers.place c.in-OtherUsers.ensures.opened
