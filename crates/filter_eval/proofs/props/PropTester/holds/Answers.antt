use Rattle.std.proofs.Common.{ap, ◌∙◌, List}
use Rattle.std.specs.List.{list_any}
use Rattle.cal_base.specs.declared.line.Line.{Line}
use Rattle.cal_model.specs.Objects.ComponentLines.{has_name}
use Rattle.filter_eval.specs.Places.{matched_of}
use Rattle.filter_eval.proofs.MatchSteps.{prop_absent}
use Rattle.filter_eval.proofs.props.PropTester.holds.Goals as goal

pub returns-in-Absent : goal.returns-in-Absent
returns-in-Absent c = λ site at.
    prop_absent (matched_of c.args.subject.now) site c.args.self.now c.args.spot.now.node.now c.has_line.result c.in-Absent.is at.node
    (c.has_line.ensures ∙ ap (λ (lines : List Line). list_any (has_name c.args.self.now.name.now) lines) c.as_slice-written.ensures)
