-- A local time as one number: its digits in seconds from 1970, and its moment from the year 0 (the count of `cal_moment`).
use Rattle.std.specs.Prelude.{ℕ, ℤ, pos, ◌+ℤ◌, ◌*ℤ◌}
use Rattle.cal_moment.specs.Calendar.{moment_number}
use Rattle.cal_moment.specs.declared.stamp.Local.{Local}

-- the digits of a local time, as seconds from 1970
abbrev pub local_seconds : Local → ℤ
local_seconds local = local.day *ℤ pos 86400 +ℤ pos local.second

-- a local time as a moment: seconds from 1 January of the year 0
abbrev pub moment_of_local : Local → ℕ
moment_of_local local = moment_number local.day local.second
