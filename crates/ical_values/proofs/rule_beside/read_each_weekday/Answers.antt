use Rattle.cal_model.specs.Values.RuleTexts.{weekday_named}
use Rattle.ical_values.specs.RuleBeside.{each_weekday}
use Rattle.ical_values.proofs.ReadTexts.{bad_map}
use Rattle.ical_values.proofs.rule_beside.read_each_weekday.Goals as goal

pub returns-in-Err-clause-bad : goal.returns-in-Err-clause-bad
returns-in-Err-clause-bad c = bad_map each_weekday weekday_named c.args.text.now c.in-Err.fault.place c.in-Err.ensures.bad
