use Rattle.cal_model.specs.Values.RuleTexts.{list_of}
use Rattle.ical_values.specs.declared.fault.ValueFault.TheVariants.{Bad}
use Rattle.ical_values.specs.declared.rule_parts.PartValue.TheVariants.{Days as OfDays}
use Rattle.ical_values.specs.RuleBeside.{day_by, takes_ordinals}
use Rattle.ical_values.proofs.ReadTexts.{bad_map, same_fault}
use Rattle.ical_values.proofs.rule_beside.read_days_value.Goals as goal

pub returns-in-Err-clause-bad : goal.returns-in-Err-clause-bad
returns-in-Err-clause-bad c = λ place is.
    let read = list_of (day_by (takes_ordinals c.args.rule.now)) in
    bad_map OfDays read c.args.text.now place (rw c.takes_ordinals.ensures at (c.in-Err.ensures.bad place (same_fault c.in-Err.fault (Bad place) is)))
