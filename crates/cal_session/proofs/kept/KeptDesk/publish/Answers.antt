use Rattle.cal_session.proofs.KeptLaws.{kept_on}
use Rattle.cal_session.proofs.ClaimLaws.{publish_keeps}
use Rattle.cal_session.proofs.kept.KeptDesk.publish.Goals as goal

pub invariant_of-self : goal.invariant_of-self
invariant_of-self g c =
    kept_on g.D.Disk.past c.self.inside.book c.publish.new.self c.self.inside.keeper c.self.invariant c.publish.ensures.users
    (publish_keeps c.args.expanded c.self.inside.book.work c.publish.new.self.work c.publish.result c.publish.ensures.work)
