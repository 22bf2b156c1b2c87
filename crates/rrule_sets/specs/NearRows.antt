-- Rows by their ids, and those whose id lies within a day of a range of digits.
use Rattle.std.specs.Prelude.{◌≡◌, Bool, true, ◌&&◌, int_le, int_lt, ℤ, pos, ◌+ℤ◌, ◌-ℤ◌, ◌*ℤ◌, ◌<ℤ◌}
use Rattle.cal_model.specs.declared.object.Object.{Object}
use Rattle.cal_model.specs.declared.row.Row.{Row}
use Rattle.cal_model.specs.Instances.Rows.{lies_in_window, window_seconds}
use Rattle.rrule_sets.specs.declared.range.Digits.{Digits}

abbrev pub HasLesserId : Row → Row → Type 0
HasLesserId a b = a.id <ℤ b.id

abbrev pub is_near_id : Digits → ℤ → Bool
is_near_id range id = int_lt id (range.high +ℤ pos 86400) && int_le (range.low -ℤ pos 86400) id

abbrev pub is_near : Digits → Row → Bool
is_near range row = is_near_id range row.id

-- a day or more within a window
abbrev pub is_inner : ℤ → Row → Bool
is_inner window row = int_lt row.id (((window +ℤ pos 1) *ℤ window_seconds) -ℤ pos 86400) && int_le ((window *ℤ window_seconds) +ℤ pos 86400) row.id

abbrev pub LiesWhereInner : Object → ℤ → Row → Type 0
LiesWhereInner object window row = is_inner window row ≡ true → lies_in_window object window row ≡ true
