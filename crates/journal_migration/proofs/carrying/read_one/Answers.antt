use Rattle.std.proofs.Common.{rules, ◌<◌, ◌^◌}
use Rattle.journal_migration.proofs.CarryLaws.{read_on, mismatch, declined, read_whole, read_badly}
use Rattle.journal_migration.proofs.carrying.read_one.Goals as goal

pub carry-requires-clause-recorded : goal.carry-requires-clause-recorded
carry-requires-clause-recorded g c = (c.in-Entry.ensures.found.0, c.in-Entry.ensures.found.1)

pub returns-in-Same-clause-read : goal.returns-in-Same-clause-read
returns-in-Same-clause-read g c =
    let within : c.args.reader.place < 2 ^ 64 = search rules in
    read_on g.D.Disk.past g.D.Disk.faults c.args.old_users.now c.args.new_users.now c.requires.all c.len-old.ensures.told c.len-new.ensures.told c.args.books.now c.carry.new.books c.args.reader c.in-Entry.behind c.in-Entry.event c.in-Entry.status
    c.requires.into c.in-Entry.ensures.found c.carry.ensures.books_of c.in-Entry.ensures.past_kept within c.in-Same.ensures.carried

pub returns-in-Mismatch-clause-read : goal.returns-in-Mismatch-clause-read
returns-in-Mismatch-clause-read g c =
    mismatch g.D.Disk.past g.D.Disk.faults c.args.old_users.now c.args.new_users.now c.requires.all c.len-old.ensures.told c.len-new.ensures.told c.args.books.now c.carry.new.books c.args.reader c.in-Entry.behind c.in-Entry.event c.in-Entry.status
    c.requires.into c.in-Entry.ensures.found c.in-Mismatch.made c.place-place.result c.args.reader.disk c.place-place.ensures c.entries-entries.ensures.kept.legal c.in-Mismatch.ensures.carried

pub returns-in-Declined-clause-read : goal.returns-in-Declined-clause-read
returns-in-Declined-clause-read g c =
    declined g.D.Disk.past g.D.Disk.faults c.args.old_users.now c.args.new_users.now c.requires.all c.len-old.ensures.told c.len-new.ensures.told c.args.books.now c.carry.new.books c.args.reader c.in-Entry.behind c.in-Entry.event c.in-Entry.status
    c.requires.into c.in-Entry.ensures.found c.in-Declined.made c.place-place.result c.args.reader.disk c.place-place.ensures c.entries-entries.ensures.kept.legal c.in-Declined.ensures.carried

pub returns-in-End-clause-read : goal.returns-in-End-clause-read
returns-in-End-clause-read g c =
    read_whole g.D.Disk.past g.D.Disk.faults c.args.old_users.now c.args.new_users.now c.args.books.now c.args.reader c.in-End.keeper c.args.reader.disk c.requires.into c.in-End.ensures.found

pub returns-in-Bad-clause-read : goal.returns-in-Bad-clause-read
returns-in-Bad-clause-read g c =
    read_badly g.D.Disk.past g.D.Disk.faults c.args.old_users.now c.args.new_users.now c.args.books.now c.args.reader c.in-Bad.disk c.in-Bad.bad c.entries-entries.ensures.kept.legal c.requires.into c.in-Bad.ensures.found
