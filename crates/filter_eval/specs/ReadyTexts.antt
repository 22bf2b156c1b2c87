-- What stands behind texts that were made ready.
use Rattle.std.specs.Prelude.{◌≡◌, List, IfSome}
use Rattle.cal_base.specs.declared.line.Line.{Line}
use Rattle.cal_base.specs.declared.line.Node.{Node}
use Rattle.cal_base.specs.declared.line.Node.TheViews.{roll-Node}
use Rattle.cal_base.specs.declared.line.Param.{Param}
use Rattle.filter_eval.specs.declared.asked.AskedLine.{AskedLine}
use Rattle.filter_eval.specs.declared.asked.AskedLine.TheVariants as asked_line
use Rattle.filter_eval.specs.declared.asked.Lines.{Lines}
use Rattle.filter_eval.specs.declared.asked.Lines.TheVariants as asked_lines
use Rattle.filter_eval.specs.declared.asked.Params.{Params}
use Rattle.filter_eval.specs.declared.asked.Params.TheVariants as asked_params
use Rattle.filter_eval.specs.declared.ready.ReadyNode.{ReadyNode}
use Rattle.filter_eval.specs.declared.ready.ReadyNode.TheOpen.{ReadyNode-F}
use Rattle.filter_eval.specs.declared.ready.ReadyNode.TheFolds.{fold-ReadyNode}
use Rattle.filter_eval.specs.declared.subject.Spot.{Spot}

-- the parameters that are asked, a line, and the lines of a component

abbrev pub params_in : Params → List Param
params_in (asked_params.Written params) = params.now
params_in (asked_params.Ready params) = params.now

abbrev pub line_in : AskedLine → Line
line_in (asked_line.Written line) = line.now
line_in (asked_line.Ready line) = line.now

abbrev pub lines_in : Lines → List Line
lines_in (asked_lines.Written lines) = lines.now
lines_in (asked_lines.Ready lines) = lines.now

-- the component whose texts were made ready

abbrev pub node_step : ReadyNode-F Node → Node
node_step ready = roll-Node (record { name = ready.name.now; lines = ready.lines; children = ready.children })

abbrev pub node_of : ReadyNode → Node
node_of = fold-ReadyNode Node node_step

-- the texts that are at hand at a spot, if any, are those of its component
abbrev pub HasTexts : Spot → Type 0
HasTexts spot = IfSome spot.texts (λ texts. node_of texts.now ≡ spot.node.now)
