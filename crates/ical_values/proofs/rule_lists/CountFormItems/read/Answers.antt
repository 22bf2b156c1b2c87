use Rattle.ical_values.proofs.rule_lists.CountFormItems.read.Goals as goal

pub returns-in-Month-clause-bad : goal.returns-in-Month-clause-bad
returns-in-Month-clause-bad c = rw c.in-Month.is c.read_small.ensures.bad

pub returns-in-Hour-clause-bad : goal.returns-in-Hour-clause-bad
returns-in-Hour-clause-bad c = rw c.in-Hour.is c.read_small-in-Hour.ensures.bad

pub returns-in-Minute-clause-bad : goal.returns-in-Minute-clause-bad
returns-in-Minute-clause-bad c = rw c.in-Minute.is c.read_small-in-Minute.ensures.bad

pub returns-in-Second-clause-bad : goal.returns-in-Second-clause-bad
returns-in-Second-clause-bad c = rw c.in-Second.is c.read_second.ensures.bad
