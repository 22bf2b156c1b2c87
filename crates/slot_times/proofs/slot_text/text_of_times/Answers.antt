use Rattle.std.proofs.Common.{sym, ◌∙◌}
use Rattle.std.proofs.lemmas.Result.{IfOk-weaker}
use Rattle.slot_times.proofs.SlotTexts.{none_text, some_text}
use Rattle.slot_times.proofs.slot_text.text_of_times.Goals as goal

pub returns-then-is_empty : goal.returns-then-is_empty
returns-then-is_empty c = IfOk-weaker c.of.result _ _ (λ text is. is ∙ none_text c.args.times.now (sym c.is_empty.ensures ∙ c.if-is_empty.true)) c.of.ensures

pub returns : goal.returns
returns c = IfOk-weaker c.lines_of_times.result _ _ (λ text is. is ∙ some_text c.args.times.now (sym c.is_empty.ensures ∙ c.if-is_empty.false)) c.lines_of_times.ensures
