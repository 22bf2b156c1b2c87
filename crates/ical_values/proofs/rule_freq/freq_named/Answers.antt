use Rattle.std.proofs.Common.{sym, ◌∙◌}
use Rattle.ical_values.proofs.WordPlaces.{no_frequency}
use Rattle.ical_values.proofs.rule_freq.freq_named.Goals as goal

pub returns-else-is_word-7 : goal.returns-else-is_word-7
returns-else-is_word-7 c =
    sym (no_frequency c.args.text.now (sym c.is_word.ensures ∙ c.if-is_word.false) (sym c.is_word-else-is_word.ensures ∙ c.if-is_word-2.false) (sym c.is_word-else-is_word-2.ensures ∙ c.if-is_word-3.false) (sym c.is_word-else-is_word-3.ensures ∙ c.if-is_word-4.false) (sym c.is_word-else-is_word-4.ensures ∙ c.if-is_word-5.false) (sym c.is_word-else-is_word-5.ensures ∙ c.if-is_word-6.false) (sym c.is_word-else-is_word-6.ensures ∙ c.if-is_word-7.false))
