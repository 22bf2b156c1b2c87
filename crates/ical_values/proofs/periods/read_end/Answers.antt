use Rattle.ical_values.specs.Forms.{time_by}
use Rattle.ical_values.proofs.PeriodPlaces.{bad_end}
use Rattle.ical_values.proofs.periods.read_end.Goals as goal

pub returns-in-Err-read_length_ahead-clause-bad : goal.returns-in-Err-read_length_ahead-clause-bad
returns-in-Err-read_length_ahead-clause-bad c =
    bad_end (time_by c.args.form) c.args.text.now c.in-Err.time.place c.in-Err-read_length_ahead.length.place c.max.result c.in-Err.ensures.bad c.in-Err-read_length_ahead.ensures.bad c.max.ensures
