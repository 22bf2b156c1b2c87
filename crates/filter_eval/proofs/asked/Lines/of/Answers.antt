use Rattle.std.proofs.Common.{◌∙◌}
use Rattle.filter_eval.proofs.ReadyNodes.{lines_at}
use Rattle.filter_eval.proofs.asked.Lines.of.Goals as goal

pub returns-in-Some : goal.returns-in-Some
returns-in-Some c = c.as_slice.ensures ∙ lines_at c.in-Some.texts.now c.args.spot.now.node.now (rw c.in-Some.is at c.requires)
