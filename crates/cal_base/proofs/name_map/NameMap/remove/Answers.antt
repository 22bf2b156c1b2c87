use Rattle.std.proofs.Common.{◌∙◌, sym, ap, map}
use Rattle.cal_base.specs.Lists.NameMap.{value_at, without}
use Rattle.cal_base.proofs.Lists.NameMapLemmas.{shown, value_at-shown, without-shown}
use Rattle.cal_base.proofs.name_map.NameMap.remove.Goals as goal

pub returns-clause-value : goal.returns-clause-value
returns-clause-value g c =
    c.remove.ensures.value
    ∙ (sym (value_at-shown (λ key. key.items) c.self.inside.entries.entries c.args.name.now)
    ∙ ap (λ named. value_at named c.args.name.now) c.self.view_is)

pub returns-clause-rest : goal.returns-clause-rest
returns-clause-rest g c =
    ap (map (shown (λ key. key.items))) c.remove.ensures.entries
    ∙ (without-shown (λ key. key.items) c.self.inside.entries.entries c.args.name.now
    ∙ ap (λ named. without named c.args.name.now) c.self.view_is)
