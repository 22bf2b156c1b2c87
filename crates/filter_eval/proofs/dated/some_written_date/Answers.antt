use Rattle.std.proofs.Common.{map, sym}
use Rattle.cal_model.specs.Filters.DateProperties.{date_of_line}
use Rattle.cal_model.specs.Objects.ComponentLines.{has_name}
use Rattle.filter_eval.specs.Passing.{date_passes}
use Rattle.filter_eval.specs.ReadyTexts.{lines_in}
use Rattle.filter_eval.specs.Tests.{param_filter_of}
use Rattle.filter_eval.proofs.FilteredTests.{any_filter_map_filter}
use Rattle.filter_eval.proofs.dated.some_written_date.Goals as goal

pub lines-init : goal.lines-init
lines-init c = sym (any_filter_map_filter (date_passes c.args.range (map param_filter_of c.args.params.now)) (date_of_line c.args.dates.now c.args.in_timezone) (has_name c.args.name.now) (lines_in c.args.lines.now))
