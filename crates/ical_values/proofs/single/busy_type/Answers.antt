use Rattle.std.proofs.Common.{sym, ◌∙◌}
use Rattle.ical_values.proofs.BusyWords.{no_busy_word}
use Rattle.ical_values.proofs.single.busy_type.Goals as goal

pub returns-else-is_word-4 : goal.returns-else-is_word-4
returns-else-is_word-4 c =
    sym (no_busy_word c.args.word.now (sym c.is_word.ensures ∙ c.if-is_word.false) (sym c.is_word-else-is_word.ensures ∙ c.if-is_word-2.false) (sym c.is_word-else-is_word-2.ensures ∙ c.if-is_word-3.false) (sym c.is_word-else-is_word-3.ensures ∙ c.if-is_word-4.false))
