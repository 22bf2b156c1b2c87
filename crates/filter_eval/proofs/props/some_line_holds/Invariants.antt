use Rattle.std.proofs.Common.{◌≡◌, ◌&&◌, length, map}
use Rattle.std.specs.List.{list_any}
use Rattle.cal_base.specs.declared.line.Line.{Line}
use Rattle.cal_model.specs.Objects.ComponentLines.{has_name, all_of}
use Rattle.filter_eval.specs.Passing.{line_holds}
use Rattle.filter_eval.specs.ReadyTexts.{lines_in}
use Rattle.filter_eval.specs.Tests.{param_filter_of}
use Rattle.filter_eval.proofs.props.some_line_holds.Given as goal

-- the lines to come tell as much as those of the name
abbrev pub invariant-lines : goal.invariant-lines
invariant-lines l = list_any (λ (line : Line). has_name l.name line && line_holds (map param_filter_of l.params) line) (lines_in l.rest) ≡ list_any (line_holds (map param_filter_of l.params)) (all_of l.name (lines_in l.lines))

abbrev pub decreases-lines : goal.decreases-lines
decreases-lines l = length (lines_in l.rest)
