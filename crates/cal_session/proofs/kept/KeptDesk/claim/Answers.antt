use Rattle.cal_session.proofs.KeptLaws.{kept_on}
use Rattle.cal_session.proofs.ClaimLaws.{claim_keeps}
use Rattle.cal_session.proofs.kept.KeptDesk.claim.Goals as goal

pub invariant_of-self : goal.invariant_of-self
invariant_of-self g c =
    kept_on g.D.Disk.past c.self.inside.book c.claim.new.self c.self.inside.keeper c.self.invariant c.claim.ensures.users
    (claim_keeps c.self.inside.book c.claim.new.self _ c.claim.result c.claim.ensures.work c.claim.ensures.err)
