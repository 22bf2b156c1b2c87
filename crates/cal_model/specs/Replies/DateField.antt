-- The value of the field Date at a moment (RFC 9110, 5.6.7 and 6.6.1), over the calendar that all dates of this server are told by.
-- Given: seconds since 1970. Moments before 1970 have none.
use Rattle.std.specs.Prelude.{ℕ, ◌+◌, ◌/◌, ◌%◌, List}
use Rattle.httpdate.specs.declared.parts.Parts.{Parts}
use Rattle.httpdate.specs.Text.{imf_fixdate}
use Rattle.cal_moment.specs.Calendar.{epoch_day, year_of, month_of, day_of_month, weekday_of}

-- the date, the time and the weekday of a second since 1970; HTTP's weekdays are Monday, 1, to Sunday, 7
abbrev pub parts_of_moment : ℕ → Parts
parts_of_moment seconds =
    let day = seconds / 86400 + epoch_day in
    record {
      year = year_of day;
      mon = month_of day;
      day = day_of_month day;
      hour = seconds % 86400 / 3600;
      min = seconds % 3600 / 60;
      sec = seconds % 60;
      wday = weekday_of day + 1;
    }

-- that second as HTTP writes it, `Sun, 06 Nov 1994 08:49:37 GMT`
abbrev pub date_of_moment : ℕ → List ℕ
date_of_moment seconds = imf_fixdate (parts_of_moment seconds)
