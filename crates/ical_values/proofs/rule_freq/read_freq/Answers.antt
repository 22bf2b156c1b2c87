use Rattle.std.proofs.Common.{refl, sym, subst, ◌∙◌}
use Rattle.cal_base.specs.Texts.Text.{raised_all}
use Rattle.cal_moment.specs.BadPlace.{IsBadAt}
use Rattle.cal_model.specs.Values.BadValues.{Reads}
use Rattle.cal_model.specs.Values.RuleTexts.{frequencies, word_of}
use Rattle.ical_values.specs.RuleFreqs.{allows}
use Rattle.ical_values.specs.RuleWords.{words_of}
use Rattle.ical_values.proofs.FreqPlaces.{freq_most}
use Rattle.ical_values.proofs.WordPlaces.{bad_frequency}
use Rattle.ical_values.proofs.rule_freq.read_freq.Goals as goal

pub returns-in-None-clause-bad : goal.returns-in-None-clause-bad
returns-in-None-clause-bad c =
    let keep = allows c.args.beside in
    let text = c.args.text.now in
    subst (IsBadAt (Reads (word_of (words_of keep frequencies))) text) (sym (c.freq_place.ensures ∙ freq_most c.args.beside (raised_all text))) (bad_frequency keep text refl (sym c.in-None.ensures))
