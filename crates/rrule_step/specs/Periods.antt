-- Which periods count, and where months begin.
use Rattle.std.specs.Prelude.{◌≡◌, ℕ, ◌+◌, ◌-◌, ◌/◌, ◌%◌, Bool, true, false, ◌==◌, nat_le, if◌then◌else◌}
use Rattle.cal_moment.specs.Calendar.{day_of_date}

-- INTERVAL: every so many numbers, from the first on
abbrev pub is_counted : ℕ → ℕ → ℕ → Bool
is_counted first interval number = if nat_le first number then (number - first) % interval == 0 else false

-- the first day of a month; months are numbered twelve for each year, and in it from 0
abbrev pub month_begin : ℕ → ℕ
month_begin month = day_of_date (month / 12) (month % 12 + 1) 1
