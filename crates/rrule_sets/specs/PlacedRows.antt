-- Rows with the windows in which they lie.
use Rattle.std.specs.Prelude.{List, ◌++◌, filter, flat_map, map, not, ℤ, ◌≤ℤ◌}
use Rattle.cal_moment.specs.declared.stamp.Stamp.{Stamp}
use Rattle.cal_model.specs.declared.object.Object.{Object}
use Rattle.cal_model.specs.declared.row.Row.{Row}
use Rattle.cal_model.specs.Instances.Rows.{is_named, lies_in_window, override_row, overrides}
use Rattle.cal_model.specs.Words.Integers.{same_int}
use Rattle.rrule_sets.specs.declared.placed.Placed.{Placed}

-- those of a window
abbrev pub rows_at : ℤ → List Placed → List Row
rows_at window placed = map (λ (p : Placed). p.row) (filter (λ (p : Placed). same_int p.window window) placed)

abbrev pub HasNoLaterWindow : Placed → Placed → Type 0
HasNoLaterWindow a b = a.window ≤ℤ b.window

-- what the rows of a master and its overrides come to in a window, before they are in order
abbrev pub merged_in : Object → Stamp → List Row → ℤ → List Row
merged_in object ids rows window =
    filter (lies_in_window object window) (flat_map (override_row object ids (map (λ (r : Row). r.id) rows)) (overrides object))
    ++ filter (lies_in_window object window) (filter (λ (r : Row). not (is_named object ids r.id)) rows)
