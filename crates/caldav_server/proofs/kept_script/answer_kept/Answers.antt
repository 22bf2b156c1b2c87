use Rattle.caldav_server.proofs.KeptJournals.{answered, told_fault}
use Rattle.caldav_server.proofs.kept_script.answer_kept.Goals as goal

pub returns-clause-answered : goal.returns-clause-answered
returns-clause-answered g c =
    let ran = c.frames_on-end in
    let now = ran.new.desk in
    rw c.into_disk.ensures
    (answered g.D.Disk.past c.args.users.now c.args.kept now ran.result _ _ _ c.requires.users ran.ensures.users c.requires.unbroken
    ran.ensures.ended ran.ensures.entered ran.ensures.legal ran.ensures.broken c.book-book.ensures.kept)

pub returns-clause-disk_fault : goal.returns-clause-disk_fault
returns-clause-disk_fault g c =
    let ran = c.frames_on-end in
    rw c.into_disk.ensures (told_fault ran.result _ _ _ _ ran.ensures.broken c.requires.unbroken)
