-- Starts behind the midnights of their local days.
use Rattle.std.specs.Prelude.{List, map, filter, ℤ, ◌≤ℤ◌}
use Rattle.cal_model.specs.declared.row.Row.{Row}
use Rattle.cal_model.specs.Words.Integers.{same_int}
use Rattle.cal_model.specs.Recurrence.RecurrenceSet.{Reading}
use Rattle.cal_model.specs.Instances.Alignment.{midnight_of}

-- the starts of a day
abbrev pub starts_on : ℤ → List (ℤ × ℤ) → List ℤ
starts_on midnight days = map (λ (entry : ℤ × ℤ). entry.1) (filter (λ (entry : ℤ × ℤ). same_int midnight entry.0) days)

-- the ids of rows with their days
abbrev pub days_of : Reading → List Row → List (ℤ × ℤ)
days_of reading rows = map (λ (row : Row). (midnight_of (reading.local row.id), row.id)) rows

abbrev pub RisesByDay : ℤ × ℤ → ℤ × ℤ → Type 0
RisesByDay a b = a.0 ≤ℤ b.0
