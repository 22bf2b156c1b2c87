-- Which places of BYSETPOS a period with so many moments can have.
use Rattle.std.specs.Prelude.{◌≡◌, ℕ, ◌*◌, ◌≤◌, ◌==◌, if◌then◌else◌, Bool, false, nat_le, nat_lt, count_by, List, [], ℤ, pos, negsuc}
use Rattle.std.specs.List.{list_any}
use Rattle.cal_moment.specs.Calendar.{day_of_moment}
use Rattle.cal_model.specs.declared.rule.DayPart.{DayPart}
use Rattle.cal_model.specs.declared.rule.Rule.{Rule}
use Rattle.cal_model.specs.Words.Lists.{numbers_between}
use Rattle.cal_model.specs.Recurrence.Passing.{period_number, day_passes}
use Rattle.cal_model.specs.Recurrence.RecurrenceSet.{Reading, first_moment, size_of_period}
use Rattle.cal_model.specs.Recurrence.NextPassing.{end_day}
use Rattle.cal_model.specs.Walks.KeptMoments.{found_from, kept_from}

-- a written number is one of the first or the last so many places
abbrev pub is_place_within : ℕ → ℤ → Bool
is_place_within most (pos n) = nat_le n most
is_place_within most (negsuc n) = nat_lt n most

-- BYDAY names a weekday, whatever the ordinal
abbrev pub has_weekday : List DayPart → ℕ → Bool
has_weekday parts weekday = list_any (λ (part : DayPart). part.weekday == weekday) parts

-- a day that begins in the period of a moment, and passes
abbrev pub is_day_of : Rule → ℕ → ℕ → ℕ → Bool
is_day_of rule start m day =
    if period_number rule.freq rule.week_start m == period_number rule.freq rule.week_start (86_400 * day)
    then day_passes rule (day_of_moment start) day
    else false

-- how many days of the period of a moment pass
abbrev pub days_of_period : Rule → ℕ → ℕ → ℕ
days_of_period rule start m = count_by (is_day_of rule start m) (numbers_between 0 end_day)

-- no period of a rule has more days that pass, whatever its start
abbrev pub HasDaysAtMost : Rule → ℕ → Type 0
HasDaysAtMost rule most = (start m a b : ℕ) → a ≤ b → count_by (is_day_of rule start m) (numbers_between a b) ≤ most

-- no period of a rule has more moments, whatever its start
abbrev pub IsMostInPeriod : Rule → ℕ → Type 0
IsMostInPeriod rule most = (start m : ℕ) (reading : Reading) → size_of_period rule (found_from rule start reading first_moment) m ≤ most

-- BYSETPOS picks nothing, whatever the start
abbrev pub PicksNothing : Rule → Type 0
PicksNothing rule = (start : ℕ) (reading : Reading) → kept_from rule start reading first_moment ≡ []
