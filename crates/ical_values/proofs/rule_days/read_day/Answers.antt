use Rattle.ical_values.proofs.DayReading.{bad_day, ordinal_is_day, weekday_is_day}
use Rattle.ical_values.proofs.rule_days.read_day.Goals as goal

pub returns-in-Ok-clause-ok : goal.returns-in-Ok-clause-ok
returns-in-Ok-clause-ok c = weekday_is_day c.args.text.now c.in-Ok.weekday c.in-Ok.ensures.ok

pub returns-in-Ok-read_ordinal_day-clause-ok : goal.returns-in-Ok-read_ordinal_day-clause-ok
returns-in-Ok-read_ordinal_day-clause-ok c = ordinal_is_day c.args.text.now c.in-Ok-read_ordinal_day.day c.in-Ok-read_ordinal_day.ensures.ok

pub returns-in-Err-read_ordinal_day-clause-bad : goal.returns-in-Err-read_ordinal_day-clause-bad
returns-in-Err-read_ordinal_day-clause-bad c =
    bad_day c.args.text.now c.in-Err.word.place c.in-Err-read_ordinal_day.day.place c.max.result c.in-Err.ensures.bad c.in-Err-read_ordinal_day.ensures.bad c.max.ensures
