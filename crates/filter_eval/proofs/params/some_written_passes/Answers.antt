use Rattle.std.proofs.Common.{sym}
use Rattle.std.specs.Prelude.{bytes_eq}
use Rattle.cal_base.specs.declared.line.Param.{Param}
use Rattle.cal_model.specs.Filters.TextTests.{param_passes}
use Rattle.cal_model.proofs.Words.ListTests.{any_filter}
use Rattle.filter_eval.proofs.params.some_written_passes.Goals as goal

pub params-init : goal.params-init
params-init c = sym (any_filter (param_passes c.args.test.now) (λ (param : Param). bytes_eq param.name c.args.name.now) c.args.params.now)
