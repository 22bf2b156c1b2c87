-- The times of a day at which a rule's moments stand.
use Rattle.std.specs.Prelude.{◌≡◌, ◌⊎◌, [], ℕ, ◌/◌, ◌%◌, Bool, false, List, filter, if◌then◌else◌}
use Rattle.cal_moment.specs.Calendar.{second_of_day}
use Rattle.cal_model.specs.declared.rule.Rule.{Rule}
use Rattle.cal_model.specs.Words.Lists.{numbers_between}
use Rattle.cal_model.specs.Recurrence.Passing.{part_passes, time_passes}

-- BYSECOND lets a second of the day pass
abbrev pub second_passes : Rule → ℕ → ℕ → Bool
second_passes rule of_start second = part_passes rule.by_second (of_start % 60) (second % 60)

-- BYMINUTE and BYSECOND let it pass
abbrev pub minute_passes : Rule → ℕ → ℕ → Bool
minute_passes rule of_start second =
    if part_passes rule.by_minute (of_start / 60 % 60) (second / 60 % 60) then second_passes rule of_start second else false

-- the seconds of a day at which the parts of the time let a moment pass, in order
abbrev pub times_of_day : Rule → ℕ → Bool → List ℕ
times_of_day rule start dated = filter (λ second. time_passes rule (second_of_day start) dated second) (numbers_between 0 86_400)

-- these, or none yet
abbrev pub AreTimes : Rule → ℕ → Bool → List ℕ → Type 0
AreTimes rule start dated times = (times ≡ []) ⊎ (times ≡ times_of_day rule start dated)
