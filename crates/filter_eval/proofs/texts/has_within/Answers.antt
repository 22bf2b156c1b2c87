use Rattle.std.proofs.Common.{◌∙◌}
use Rattle.filter_eval.proofs.FoundTexts.{found}
use Rattle.filter_eval.proofs.texts.has_within.Goals as goal

pub returns : goal.returns
returns c = c.is_some.ensures ∙ found c.args.text.now c.args.finder.now c.find.result c.find.ensures
