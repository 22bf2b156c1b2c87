-- The moment that a DATE-TIME in UTC names (RFC 5545, 3.3.5, form 2), `YYYYMMDDTHHMMSSZ`, in seconds since 1970.
-- Given: a whole text. A DATE-TIME without the `Z` is a local time and names no moment.
use Rattle.std.specs.Prelude.{ℕ, Bool, true, false, List, Option, Some, None, option_and_then, ℤ}
use Rattle.cal_moment.specs.declared.stamp.Local.{Local}
use Rattle.cal_model.specs.Values.ValueTexts.{date_time_of, utc_of_local}

-- of the two, a local time of UTC is a moment
abbrev pub moment_in_utc : Local × Bool → Option ℤ
moment_in_utc (local, true) = Some (utc_of_local local).0
moment_in_utc (local, false) = None

unfoldable pub utc_of : List ℕ → Option ℤ
utc_of text = option_and_then moment_in_utc (date_time_of text)
