use Rattle.std.proofs.Common.{refl}
use Rattle.cal_moment.specs.Calendar.{moment_of_seconds}
use Rattle.cal_moment.proofs.CalendarLaws.{moment_number-parts}
use Rattle.cal_moment.proofs.times.write_utc.Goals as goal

pub returns-clause-text : goal.returns-clause-text
returns-clause-text c =
    rw (c.copy_from_slice.ensures.after, c.write_local.ensures.text, c.local_of.ensures.value, moment_number-parts (moment_of_seconds c.args.utc.0)) refl
