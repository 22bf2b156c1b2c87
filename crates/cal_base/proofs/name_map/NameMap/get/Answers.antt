use Rattle.std.proofs.Common.{◌∙◌, sym, ap}
use Rattle.cal_base.specs.Lists.NameMap.{value_at}
use Rattle.cal_base.proofs.Lists.NameMapLemmas.{value_at-shown}
use Rattle.cal_base.proofs.name_map.NameMap.get.Goals as goal

pub returns : goal.returns
returns g c =
    c.get.ensures.value
    ∙ (sym (value_at-shown (λ key. key.items) c.self.inside.entries.entries c.args.name.now)
    ∙ ap (λ named. value_at named c.args.name.now) c.self.view_is)
