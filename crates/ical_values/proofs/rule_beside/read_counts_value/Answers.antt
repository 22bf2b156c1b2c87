use Rattle.cal_model.specs.Values.RuleTexts.{list_of}
use Rattle.ical_values.specs.declared.fault.ValueFault.TheVariants.{Bad}
use Rattle.ical_values.specs.declared.rule_parts.PartValue.TheVariants.{Counts as OfCounts}
use Rattle.ical_values.specs.RuleForms.{count_by}
use Rattle.ical_values.proofs.ReadTexts.{bad_map, same_fault}
use Rattle.ical_values.proofs.rule_beside.read_counts_value.Goals as goal

pub returns-in-Err-clause-bad : goal.returns-in-Err-clause-bad
returns-in-Err-clause-bad c = λ place is. bad_map (OfCounts c.args.form) (list_of (count_by c.args.form)) c.args.text.now place (c.in-Err.ensures.bad place (same_fault c.in-Err.fault (Bad place) is))
