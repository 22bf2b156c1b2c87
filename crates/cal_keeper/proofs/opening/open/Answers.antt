use Rattle.std.proofs.Common.{rules}
use Rattle.cal_keeper.proofs.Openings.{not_journal, of_others, no_journal, other_users}
use Rattle.cal_keeper.proofs.opening.open.Goals as goal

pub returns-in-Err-NotJournal-clause-opened : goal.returns-in-Err-NotJournal-clause-opened
returns-in-Err-NotJournal-clause-opened g c =
    not_journal c.args.users.now (g.D.Disk.past c.args.disk) _ (rw c.in-Err-NotJournal.field-0-is at c.in-Err-NotJournal.ensures.header) (search rules)

pub returns-in-Err-NotJournal-clause-rightly : goal.returns-in-Err-NotJournal-clause-rightly
returns-in-Err-NotJournal-clause-rightly g c =
    let found = not_journal c.args.users.now (g.D.Disk.past c.args.disk) _ (rw c.in-Err-NotJournal.field-0-is at c.in-Err-NotJournal.ensures.header) (search rules) in
    no_journal c.args.users.now (g.D.Disk.past c.args.disk) c.counts_of-principals.ensures.short found

pub returns-in-Err-OtherUsers-clause-opened : goal.returns-in-Err-OtherUsers-clause-opened
returns-in-Err-OtherUsers-clause-opened g c =
    rw c.in-Err-OtherUsers.field-0-is (of_others c.args.users.now c.in-Err-OtherUsers.place (g.D.Disk.past c.args.disk) _ (rw c.in-Err-OtherUsers.field-0-is at c.in-Err-OtherUsers.ensures.header) (search rules))

pub returns-in-Err-OtherUsers-clause-rightly : goal.returns-in-Err-OtherUsers-clause-rightly
returns-in-Err-OtherUsers-clause-rightly g c =
    let found = of_others c.args.users.now c.in-Err-OtherUsers.place (g.D.Disk.past c.args.disk) _ (rw c.in-Err-OtherUsers.field-0-is at c.in-Err-OtherUsers.ensures.header) (search rules) in
    other_users c.args.users.now (g.D.Disk.past c.args.disk) c.in-Err-OtherUsers.place c.counts_of-principals.ensures.short found
