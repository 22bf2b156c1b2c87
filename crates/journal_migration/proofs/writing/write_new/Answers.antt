use Rattle.journal_migration.proofs.WriteLaws.{begun_draft, written_as}
use Rattle.journal_migration.proofs.writing.write_new.Goals as goal

pub write_all-requires-clause-drafted : goal.write_all-requires-clause-drafted
write_all-requires-clause-drafted g c =
    begun_draft c.args.users.now c.in-Begun.draft.place (g.D.Disk.past c.args.to) (g.D.Disk.past c.in-Begun.draft.disk) c.in-Begun.ensures.drafted.1

pub returns-in-Begun-clause-written : goal.returns-in-Begun-clause-written
returns-in-Begun-clause-written g c =
    let begun = c.in-Begun.ensures.drafted in
    written_as g.D.Disk.past g.D.Disk.faults c.file_laws.ensures.finished c.args.users.now c.args.book.now.work.journal c.args.to c.in-Begun.draft.disk c.write_all.result.1 c.in-Begun.draft.place c.write_all.result.0 begun.0 begun.1
    c.in-Begun.ensures.never_falls c.write_all.ensures.never_falls c.write_all.ensures.written
