use Rattle.std.proofs.Common.{subst}
use Rattle.cal_base.specs.Lists.NameMap.{IsInOrder}
use Rattle.cal_base.proofs.Lists.NameMapLemmas.{IsInOrder-shown}
use Rattle.cal_base.proofs.name_map.NameMap.len.Goals as goal

pub returns-clause-in_order : goal.returns-clause-in_order
returns-clause-in_order g c =
    subst IsInOrder c.self.view_is (IsInOrder-shown (λ key. key.items) c.self.inside.entries.entries c.len.ensures.ordered)
