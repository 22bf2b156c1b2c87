use Rattle.cal_model.proofs.Values.RuleFronts.{trial_is_exact}
use Rattle.ical_values.proofs.rule.read_rule.Goals as goal

pub returns-in-Ok-clause-trial : goal.returns-in-Ok-clause-trial
returns-in-Ok-clause-trial c = trial_is_exact

pub returns-in-Err-clause-trial : goal.returns-in-Err-clause-trial
returns-in-Err-clause-trial c = trial_is_exact
