use Rattle.std.proofs.Common.{subst}
use Rattle.cal_base.specs.Lists.NameMap.{IsInOrder}
use Rattle.name_pages.proofs.PageLemmas.{pairs_in_order}
use Rattle.name_pages.proofs.map.NamePages.pages.Goals as goal

pub returns-clause-in_order : goal.returns-clause-in_order
returns-clause-in_order g c = subst IsInOrder c.self.view_is (pairs_in_order c.self.inside.pages c.self.invariant.apart)
