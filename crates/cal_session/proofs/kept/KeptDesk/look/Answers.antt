use Rattle.std.proofs.Common.{rules, ◌≡◌, false, ap, subst, IfSome}
use Rattle.cal_book.specs.Cores.{Core}
use Rattle.cal_book.specs.Looks.{IsLookAt}
use Rattle.cal_session.specs.KeptBooks.{KeptState}
use Rattle.cal_session.proofs.KeptLaws.{kept_on}
use Rattle.cal_session.proofs.kept.KeptDesk.look.Goals as goal

pub invariant_of-self : goal.invariant_of-self
invariant_of-self g c =
    kept_on g.D.Disk.past c.self.inside.book c.look.new.self c.self.inside.keeper c.self.invariant (ap (λ (core : Core). core.users) c.look.ensures.same) (ap (λ (core : Core). core.work.journal) c.look.ensures.same)

pub returns-clause-at : goal.returns-clause-at
returns-clause-at g c = subst (λ (k : KeptState _). IfSome c.look.result (IsLookAt k.book c.args.event.now)) c.self.view_is c.look.ensures.at

pub returns-clause-unbroken : goal.returns-clause-unbroken
returns-clause-unbroken g c there =
    let whole : c.self.inside.keeper.broken ≡ false = search rules in
    subst (λ (k : KeptState _). k.keeper.broken ≡ false) c.self.view_is whole
