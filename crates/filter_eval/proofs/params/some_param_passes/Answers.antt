use Rattle.std.proofs.Common.{ap, sym, ◌∙◌}
use Rattle.std.specs.Prelude.{bytes_eq}
use Rattle.std.specs.List.{list_any}
use Rattle.cal_base.specs.declared.line.Param.{Param}
use Rattle.cal_model.specs.Filters.TextTests.{param_passes, params_named}
use Rattle.cal_model.proofs.Words.ListTests.{any_filter}
use Rattle.filter_eval.specs.declared.asked.Params.{Params}
use Rattle.filter_eval.specs.ReadyTexts.{params_in}
use Rattle.filter_eval.proofs.params.some_param_passes.Goals as goal

pub returns-in-Ready : goal.returns-in-Ready
returns-in-Ready c =
    c.some_ready_passes.ensures
    ∙ (sym (any_filter (param_passes c.args.test.now) (λ (param : Param). bytes_eq param.name c.args.name.now) c.in-Ready.params.now)
    ∙ ap (λ (params : Params). list_any (param_passes c.args.test.now) (params_named c.args.name.now (params_in params))) (sym c.in-Ready.is))
