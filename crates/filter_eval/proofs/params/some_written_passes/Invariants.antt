use Rattle.std.proofs.Common.{◌≡◌, ◌&&◌, length}
use Rattle.std.specs.Prelude.{bytes_eq}
use Rattle.std.specs.List.{list_any}
use Rattle.cal_base.specs.declared.line.Param.{Param}
use Rattle.cal_model.specs.Filters.TextTests.{param_passes, params_named}
use Rattle.filter_eval.proofs.params.some_written_passes.Given as goal

-- the parameters to come tell as much as those of the name
abbrev pub invariant-params : goal.invariant-params
invariant-params l = list_any (λ (param : Param). bytes_eq param.name l.name && param_passes l.test param) l.rest ≡ list_any (param_passes l.test) (params_named l.name l.params)

abbrev pub decreases-params : goal.decreases-params
decreases-params l = length l.rest
