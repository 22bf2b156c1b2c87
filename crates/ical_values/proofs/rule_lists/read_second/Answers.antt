use Rattle.std.specs.Prelude.{min}
use Rattle.cal_model.specs.Values.RuleTexts.{number_of}
use Rattle.ical_values.proofs.ReadTexts.{bad_map}
use Rattle.ical_values.proofs.rule_lists.read_second.Goals as goal

pub returns-in-Err-clause-bad : goal.returns-in-Err-clause-bad
returns-in-Err-clause-bad c = bad_map (λ n. min n 59) (number_of 0 60) c.args.text.now c.in-Err.fault.place c.in-Err.ensures.bad
