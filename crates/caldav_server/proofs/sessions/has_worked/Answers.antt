use Rattle.caldav_server.proofs.sessions.has_worked.Goals as goal

pub returns : goal.returns
returns g c = record { same = c.work_on-worked.ensures.pass; grown = (c.work_on-worked.ensures.others.0, c.work_on-worked.ensures.others.1) }
