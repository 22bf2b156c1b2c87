use Rattle.std.proofs.Common.{◌∙◌, sym, ap, map}
use Rattle.cal_base.specs.Lists.NameMap.{with_value, value_at}
use Rattle.cal_base.proofs.Lists.NameMapLemmas.{shown, value_at-shown, with_value-shown}
use Rattle.cal_base.proofs.name_map.NameMap.insert.Goals as goal

pub returns-clause-ok : goal.returns-clause-ok
returns-clause-ok g c =
    ap (map (shown (λ key. key.items))) c.in-Ok.ensures.entries
    ∙ (with_value-shown (λ key. key.items) c.self.inside.entries.entries c.into_vec.result c.args.value
    ∙ (ap (λ named. with_value named c.into_vec.result.items c.args.value) c.self.view_is
    ∙ ap (λ name. with_value c.args.self.now name c.args.value) c.into_vec.ensures))

pub returns-in_default-clause-err_only_at_new_name : goal.returns-in_default-clause-err_only_at_new_name
returns-in_default-clause-err_only_at_new_name g c =
    ap (λ named. value_at named c.args.name) (sym c.self.view_is)
    ∙ (ap (value_at (map (shown (λ key. key.items)) c.self.inside.entries.entries)) (sym c.into_vec.ensures)
    ∙ (value_at-shown (λ key. key.items) c.self.inside.entries.entries c.into_vec.result.items
    ∙ c.in_default.ensures.absent))
