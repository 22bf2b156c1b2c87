use Rattle.cal_moment.specs.BadPlace.{IsBadAt}
use Rattle.cal_model.specs.Values.BadValues.{Reads}
use Rattle.cal_model.specs.Values.RuleTexts.{number_of}
use Rattle.ical_values.specs.declared.rule_parts.PartValue.TheVariants.{Interval as OfInterval}
use Rattle.ical_values.specs.declared.rule_parts.RulePart.TheVariants.{Interval}
use Rattle.ical_values.specs.RuleParts.{value_of}
use Rattle.ical_values.proofs.ReadTexts.{bad_map, place_told}
use Rattle.ical_values.proofs.rule_beside.read_interval.Goals as goal

pub returns-in-Err-clause-bad : goal.returns-in-Err-clause-bad
returns-in-Err-clause-bad c = λ place is.
    place_told (IsBadAt (Reads (value_of Interval)) c.args.text.now) c.in-Err.fault.place place is (bad_map OfInterval (number_of 1 999999999) c.args.text.now c.in-Err.fault.place c.in-Err.ensures.bad)
