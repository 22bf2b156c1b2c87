use Rattle.cal_model.specs.Values.RuleTexts.{list_of}
use Rattle.ical_values.specs.declared.fault.ValueFault.TheVariants.{Bad}
use Rattle.ical_values.specs.declared.rule_parts.PartValue.TheVariants.{Places as OfPlaces}
use Rattle.ical_values.specs.RuleForms.{place_by}
use Rattle.ical_values.proofs.ReadTexts.{bad_map, same_fault}
use Rattle.ical_values.proofs.rule_beside.read_places_value.Goals as goal

pub returns-in-Err-clause-bad : goal.returns-in-Err-clause-bad
returns-in-Err-clause-bad c = λ place is. bad_map (OfPlaces c.args.form) (list_of (place_by c.args.form)) c.args.text.now place (c.in-Err.ensures.bad place (same_fault c.in-Err.fault (Bad place) is))
