use Rattle.std.proofs.Common.{◌≡◌, length}
use Rattle.std.specs.List.{list_any}
use Rattle.cal_model.specs.Filters.TextTests.{text_passes}
use Rattle.filter_eval.proofs.params.some_value_passes.Given as goal

-- the values to come tell as much as all
abbrev pub invariant-values : goal.invariant-values
invariant-values l = list_any (text_passes l.test) l.rest ≡ list_any (text_passes l.test) l.values

abbrev pub decreases-values : goal.decreases-values
decreases-values l = length l.rest
