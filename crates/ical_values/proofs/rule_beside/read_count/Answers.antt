use Rattle.cal_moment.specs.BadPlace.{IsBadAt}
use Rattle.cal_model.specs.Values.BadValues.{Reads}
use Rattle.cal_model.specs.Values.RuleTexts.{number_of}
use Rattle.ical_values.specs.declared.rule_parts.PartValue.TheVariants.{Count as OfCount}
use Rattle.ical_values.specs.declared.rule_parts.RulePart.TheVariants.{Count}
use Rattle.ical_values.specs.RuleParts.{value_of}
use Rattle.ical_values.proofs.ReadTexts.{bad_map, place_told}
use Rattle.ical_values.proofs.rule_beside.read_count.Goals as goal

pub returns-in-Err-clause-bad : goal.returns-in-Err-clause-bad
returns-in-Err-clause-bad c = λ place is.
    place_told (IsBadAt (Reads (value_of Count)) c.args.text.now) c.in-Err.fault.place place is (bad_map OfCount (number_of 1 999999999) c.args.text.now c.in-Err.fault.place c.in-Err.ensures.bad)
