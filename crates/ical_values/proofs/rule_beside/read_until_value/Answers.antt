use Rattle.cal_moment.specs.BadPlace.{IsBadAt}
use Rattle.cal_model.specs.Values.BadValues.{Reads}
use Rattle.cal_model.specs.Values.RuleTexts.{until_of}
use Rattle.ical_values.specs.declared.rule_parts.PartValue.TheVariants.{Until as OfUntil}
use Rattle.ical_values.specs.declared.rule_parts.RulePart.TheVariants.{Until}
use Rattle.ical_values.specs.RuleParts.{value_of}
use Rattle.ical_values.proofs.ReadTexts.{bad_map, place_told}
use Rattle.ical_values.proofs.rule_beside.read_until_value.Goals as goal

pub returns-in-Err-clause-bad : goal.returns-in-Err-clause-bad
returns-in-Err-clause-bad c = λ place is.
    place_told (IsBadAt (Reads (value_of Until)) c.args.text.now) c.in-Err.fault.place place is (bad_map OfUntil (until_of) c.args.text.now c.in-Err.fault.place c.in-Err.ensures.bad)
