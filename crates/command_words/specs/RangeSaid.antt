-- The range that two words of a command state: each is a DATE-TIME in UTC (RFC 5545, 3.3.5, form 2) of the dates that are served, and the first lies before the second.
use Rattle.std.specs.Prelude.{◌&&◌, if◌then◌else◌, Option, Some, None, option_and_then, ℤ, int_le}
use Rattle.clap.specs.Words.{Text}
use Rattle.cal_model.specs.declared.row.Range.{Range}
use Rattle.cal_model.specs.Bodies.RangeElements.{range_between}
use Rattle.cal_model.specs.Values.UtcTexts.{utc_of}
use Rattle.cal_model.specs.Words.Limits.{first_date, last_date}

-- a moment of the dates that are served
abbrev pub served : ℤ → Option ℤ
served moment = if int_le first_date moment && int_le moment last_date then Some moment else None

abbrev pub moment_said : Text → Option ℤ
moment_said text = option_and_then served (utc_of text)

abbrev pub range_said : Text → Text → Option Range
range_said from to = option_and_then (λ start. option_and_then (λ end. range_between start end) (moment_said to)) (moment_said from)
