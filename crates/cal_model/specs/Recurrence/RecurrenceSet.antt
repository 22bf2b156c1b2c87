-- The recurrence set of a rule: which of the moments that pass it are starts. From RFC 5545, 3.8.5.3 and 3.3.10.
-- A filter over a whole rising list of local moments, and no walk from one moment to the next. Every definition takes the list: the set itself is the one over `every_moment`, and a shorter list shows what the others do.
-- In this order: the moments that pass and exist in the zone; of these BYSETPOS keeps some of each period; those after the start, by their digits; those up to UNTIL; the first COUNT; those up to the last written value. The start stands first, whatever the rule, UNTIL, COUNT and the zone say.
use Rattle.std.specs.Prelude.{ℕ, ◌-◌, ◌*◌, Bool, true, false, ◌==◌, nat_le, nat_lt, if◌then◌else◌, List, ◌∷◌, filter, count_by, take, ℤ, ◌+ℤ◌, ◌-ℤ◌, int_le, Option, Some, None}
use Rattle.cal_moment.specs.Calendar.{day_of_moment, day_number, moment_of_seconds, seconds_since_1970}
use Rattle.cal_model.specs.declared.rule.Rule.{Rule}
use Rattle.cal_model.specs.declared.rule.Until.{Until}
use Rattle.cal_model.specs.declared.rule.Until.TheVariants.{Day, Local, Utc}
use Rattle.cal_model.specs.Words.Limits.{last_date}
use Rattle.cal_model.specs.Words.Lists.{is_empty, numbers_between}
use Rattle.cal_model.specs.Words.Integers.{some_names_place}
use Rattle.cal_model.specs.Values.LocalTimes.{moment_of_local}
use Rattle.cal_model.specs.Recurrence.Passing.{passes, period_number}
use Rattle.cal_model.specs.Recurrence.NextPassing.{end_day}

-- The stated bounds, as moments.

-- 1 January of the year 1
abbrev pub first_moment : ℕ
first_moment = 31_622_400

-- the last date that is served, the last written value of a start
abbrev pub last_written : ℕ
last_written = moment_of_seconds last_date

-- every second of the years 1 to 2101, in order
unfoldable pub every_moment : List ℕ
every_moment = numbers_between first_moment (86_400 * end_day)

-- How the local moments of a start are read: whether it is a DATE, whether its moments are instants, which of them exist, the instant of each, and the local time of an instant. Both times are seconds from 1970; where they aren't instants they are the digits themselves.
pub record Reading : Type 0 where
  pub dated : Bool
  pub timed : Bool
  pub exists : ℤ → Bool
  pub instant : ℤ → ℤ
  pub local : ℤ → ℤ

-- the moments that pass and exist; one that a change of the clock skips is no moment of the rule
abbrev pub found_moments : Rule → ℕ → Reading → List ℕ → List ℕ
found_moments rule start reading moments =
    filter (λ m. if passes rule start reading.dated m then reading.exists (seconds_since_1970 m) else false) moments

-- two moments lie in one period
abbrev pub same_period : Rule → ℕ → ℕ → Bool
same_period rule m k = period_number rule.freq rule.week_start m == period_number rule.freq rule.week_start k

-- the place of a moment among those of its period, from 1, and how many they are
abbrev pub place_in_period : Rule → List ℕ → ℕ → ℕ
place_in_period rule found m = count_by (λ k. if nat_le k m then same_period rule m k else false) found

abbrev pub size_of_period : Rule → List ℕ → ℕ → ℕ
size_of_period rule found m = count_by (same_period rule m) found

-- BYSETPOS keeps the moments at its places in each period; those before the start and after UNTIL have their places too
abbrev pub at_places : Rule → List ℕ → List ℕ
at_places rule found =
    if is_empty rule.by_set_pos then found
    else filter (λ m. some_names_place rule.by_set_pos (place_in_period rule found m) (size_of_period rule found m)) found

-- UNTIL, which counts itself. What is compared:
--   UNTIL is a DATE, or the start is one: the written days
--   UNTIL is in UTC, and the start is a zoned time or in UTC: the instants
--   else: the digits

-- the day that UNTIL writes; in UTC that of its digits there
abbrev pub until_day : Until → ℕ
until_day (Day d) = day_number d.0
until_day (Local l) = day_number l.day
until_day (Utc u) = day_of_moment (moment_of_seconds u.0)

abbrev pub day_not_past : Until → ℕ → Bool
day_not_past until m = nat_le (day_of_moment m) (until_day until)

abbrev pub not_past : Reading → Until → ℕ → Bool
not_past reading (Day d) m = day_not_past (Day d) m
not_past reading (Local l) m = if reading.dated then day_not_past (Local l) m else nat_le m (moment_of_local l)
not_past reading (Utc u) m =
    if reading.dated then day_not_past (Utc u) m
    else (if reading.timed then int_le (reading.instant (seconds_since_1970 m)) u.0 else nat_le m (moment_of_seconds u.0))

abbrev pub until_passes : Reading → Option Until → ℕ → Bool
until_passes reading None m = true
until_passes reading (Some until) m = not_past reading until m

-- COUNT: the start is the first, so it leaves one less
abbrev pub first_counted : Option ℕ → List ℕ → List ℕ
first_counted None later = later
first_counted (Some count) later = take (count - 1) later

-- the set without its start
abbrev pub later_moments : Rule → ℕ → Reading → List ℕ → List ℕ
later_moments rule start reading moments =
    let kept = at_places rule (found_moments rule start reading moments) in
    let after = filter (λ m. nat_lt start m) kept in
    let until = filter (until_passes reading rule.until) after in
    filter (λ m. nat_le m last_written) (first_counted rule.count until)

-- the start stands first and always stays
abbrev pub recurrence_set_over : List ℕ → Rule → ℕ → Reading → List ℕ
recurrence_set_over moments rule start reading = start ∷ later_moments rule start reading moments

-- the recurrence set
abbrev pub recurrence_set : Rule → ℕ → Reading → List ℕ
recurrence_set = recurrence_set_over every_moment

-- a reading in which every moment exists and is its own digits: a floating start, or with true a DATE
abbrev pub plain_reading : Bool → Reading
plain_reading dated = record { dated = dated; timed = false; exists = λ l. true; instant = λ l. l; local = λ u. u }

-- a start in UTC
abbrev pub utc_reading : Reading
utc_reading = record { dated = false; timed = true; exists = λ l. true; instant = λ l. l; local = λ u. u }

-- an onset of a zone: no moment is missing, and UNTIL in UTC is compared with the moment less the offset before
abbrev pub onset_reading : ℤ → Reading
onset_reading from = record { dated = false; timed = true; exists = λ l. true; instant = λ l. l -ℤ from; local = λ u. u +ℤ from }
