use Rattle.std.proofs.Common.{◌≡◌, ap, ◌∙◌, arith}
use Rattle.jiff_core.specs.Calendar.{weekday_number}
use Rattle.jiff_core.specs.Date.{epoch_day}
use Rattle.jiff_core.proofs.SignedLemmas.{signed_casts}
use Rattle.cal_moment.proofs.JiffCalendar.{weekday_is}
use Rattle.cal_moment.proofs.calendar.weekday.Goals as goal

pub returns-clause-value : goal.returns-clause-value
returns-clause-value c =
    let same : epoch_day c.from_days_since_min.result ≡ c.args.day.0 = omega (arith, signed_casts) in
    weekday_is c.args.day.0 c.index.result c.requires.0 (c.index.ensures.value ∙ c.weekday.ensures ∙ ap weekday_number same)
