use Rattle.cal_moment.specs.BadPlace.{IsBadAt}
use Rattle.cal_model.specs.Values.BadValues.{Reads}
use Rattle.cal_model.specs.Values.RuleTexts.{frequencies, word_of}
use Rattle.ical_values.specs.declared.rule_parts.PartValue.TheVariants.{Freq as OfFreq}
use Rattle.ical_values.specs.declared.rule_parts.RulePart.TheVariants.{Freq}
use Rattle.ical_values.specs.RuleBeside.{refusing, value_beside}
use Rattle.ical_values.specs.RuleFreqs.{allows}
use Rattle.ical_values.specs.RuleWords.{words_of}
use Rattle.ical_values.proofs.ReadTexts.{bad_map, place_told}
use Rattle.ical_values.proofs.rule_beside.read_freq_value.Goals as goal

pub returns-in-Err-clause-bad : goal.returns-in-Err-clause-bad
returns-in-Err-clause-bad c = λ place is.
    let rule = c.args.rule.now in
    place_told (IsBadAt (Reads (value_beside rule Freq)) c.args.text.now) c.in-Err.fault.place place is
    (bad_map OfFreq (word_of (words_of (allows (refusing rule)) frequencies)) c.args.text.now c.in-Err.fault.place (rw c.refusing.ensures at c.in-Err.ensures.bad))
