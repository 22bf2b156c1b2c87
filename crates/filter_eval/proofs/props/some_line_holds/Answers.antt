use Rattle.std.proofs.Common.{map, sym}
use Rattle.cal_model.specs.Objects.ComponentLines.{has_name}
use Rattle.cal_model.proofs.Words.ListTests.{any_filter}
use Rattle.filter_eval.specs.Passing.{line_holds}
use Rattle.filter_eval.specs.ReadyTexts.{lines_in}
use Rattle.filter_eval.specs.Tests.{param_filter_of}
use Rattle.filter_eval.proofs.props.some_line_holds.Goals as goal

pub lines-init : goal.lines-init
lines-init c = sym (any_filter (line_holds (map param_filter_of c.args.params.now)) (has_name c.args.name.now) (lines_in c.args.lines.now))
