use Rattle.ical_values.proofs.rule_beside.read_value.Goals as goal

pub returns-in-Freq-clause-bad : goal.returns-in-Freq-clause-bad
returns-in-Freq-clause-bad c = rw c.in-Freq.is c.read_freq_value.ensures.bad

pub returns-in-Interval-clause-bad : goal.returns-in-Interval-clause-bad
returns-in-Interval-clause-bad c = rw c.in-Interval.is c.read_interval.ensures.bad

pub returns-in-Count-clause-bad : goal.returns-in-Count-clause-bad
returns-in-Count-clause-bad c = rw c.in-Count.is c.read_count.ensures.bad

pub returns-in-Until-clause-bad : goal.returns-in-Until-clause-bad
returns-in-Until-clause-bad c = rw c.in-Until.is c.read_until_value.ensures.bad

pub returns-in-WeekStart-clause-bad : goal.returns-in-WeekStart-clause-bad
returns-in-WeekStart-clause-bad c = rw c.in-WeekStart.is c.read_week_start.ensures.bad

pub returns-in-Days-clause-bad : goal.returns-in-Days-clause-bad
returns-in-Days-clause-bad c = rw c.in-Days.is c.read_days_value.ensures.bad

pub returns-in-Counts-clause-bad : goal.returns-in-Counts-clause-bad
returns-in-Counts-clause-bad c = rw c.in-Counts.is c.read_counts_value.ensures.bad

pub returns-in-Places-clause-bad : goal.returns-in-Places-clause-bad
returns-in-Places-clause-bad c = rw c.in-Places.is c.read_places_value.ensures.bad
