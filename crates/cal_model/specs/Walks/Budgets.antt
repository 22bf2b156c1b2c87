-- How many steps a walk may still take: the moments that pass in the periods that have begun before the end of a range, and one more.
use Rattle.std.specs.Prelude.{ℕ, ◌+◌, ◌-◌, ◌*◌, Bool, ◌&&◌, nat_le, if◌then◌else◌, count_by}
use Rattle.cal_model.specs.declared.rule.Rule.{Rule}
use Rattle.cal_model.specs.Recurrence.NextPassing.{end_day}
use Rattle.cal_model.specs.Values.LocalTimes.{moment_of_local}
use Rattle.cal_model.specs.Words.Lists.{numbers_between}
use Rattle.cal_model.specs.Recurrence.Passing.{passes}
use Rattle.cal_model.specs.declared.walk.cursor.Cursor.{Cursor}
use Rattle.cal_model.specs.Walks.KeptMoments.{number_of}

-- a moment passes in a period up to the last one
abbrev pub passes_by : Rule → ℕ → Bool → ℕ → ℕ → Bool
passes_by rule start dated last m = passes rule start dated m && nat_le (number_of rule m) last

-- the period of the last moment before an end
abbrev pub last_period : Rule → ℕ → ℕ
last_period rule end = number_of rule (end - 1)

-- from a place on: those moments, and one beyond them, if none was taken yet
unfoldable pub budget : Rule → ℕ → Bool → ℕ → ℕ → ℕ
budget rule start dated last place =
    count_by (passes_by rule start dated last) (numbers_between place (86_400 * end_day)) + (if nat_le (number_of rule (place - 1)) last then 1 else 0)

-- the place behind what was taken
abbrev pub place_of : Cursor → ℕ
place_of cursor = moment_of_local cursor.at + (if cursor.taken then 1 else 0)

-- what a cursor may still take
abbrev pub left_to_take : Rule → ℕ → Bool → ℕ → Cursor → ℕ
left_to_take rule start dated end cursor = budget rule start dated (last_period rule end) (place_of cursor)
