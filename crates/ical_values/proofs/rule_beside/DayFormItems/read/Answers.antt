use Rattle.ical_values.proofs.rule_beside.DayFormItems.read.Goals as goal

pub returns-then-self-clause-bad : goal.returns-then-self-clause-bad
returns-then-self-clause-bad c = rw c.if-self.true c.read_day.ensures.bad

pub returns-else-self-clause-bad : goal.returns-else-self-clause-bad
returns-else-self-clause-bad c = rw c.if-self.false c.read_each_weekday.ensures.bad
