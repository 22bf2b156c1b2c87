-- Rows that are asked for, and the rows of overrides beside starts that are sorted by day.
use Rattle.std.specs.Prelude.{ℕ, ◌+◌, Bool, true, List, [], ◌∷◌, ◌++◌, map, flat_map, option_to_list, ℤ}
use Rattle.cal_moment.specs.declared.stamp.Stamp.{Stamp}
use Rattle.cal_model.specs.declared.object.Component.{Component}
use Rattle.cal_model.specs.declared.object.Object.{Object}
use Rattle.cal_model.specs.declared.row.Row.{Row}
use Rattle.cal_model.specs.declared.zone.ZoneTable.{ZoneTable}
use Rattle.cal_model.specs.Words.Lists.{first_or_else}
use Rattle.cal_model.specs.Recurrence.RecurrenceSet.{Reading}
use Rattle.cal_model.specs.Instances.Alignment.{Aligned, at, on_day, align, reading_of, value_of, kind_of}
use Rattle.cal_model.specs.Instances.Rows.{own_start, end_from, row_of, lies_in_window}
use Rattle.override_merge.specs.declared.rows.Part.{Part}
use Rattle.override_merge.specs.declared.rows.Part.TheVariants as part
use Rattle.override_merge.specs.DayStarts.{starts_on}

abbrev pub lies_in : Object → Part → Row → Bool
lies_in object part.All row = true
lies_in object (part.Window window) row = lies_in_window object window row

-- the id of an override beside starts by their days
abbrev pub id_by : Reading → List (ℤ × ℤ) → Aligned → ℤ
id_by reading days (at value) = value
id_by reading days (on_day midnight) = first_or_else (reading.instant midnight) (starts_on midnight days)

-- the row of an override beside starts by their days
abbrev pub own_row_by : List ZoneTable → Stamp → List (ℤ × ℤ) → Component → ℕ → List Row
own_row_by zones ids days c number =
    flat_map (λ s. map (λ x. row_of (id_by (reading_of zones ids) days (align zones x ids)) (value_of zones s) (end_from zones c (value_of zones s)) number (kind_of ids) (kind_of s)) (option_to_list c.recurrence_id)) (option_to_list (own_start c))

-- the rows of the overrides among components that are counted from a number on
abbrev pub own_rows_by : List ZoneTable → Stamp → List (ℤ × ℤ) → ℕ → List Component → List Row
own_rows_by zones ids days number [] = []
own_rows_by zones ids days number (c ∷ cs) = own_row_by zones ids days c number ++ own_rows_by zones ids days (number + 1) cs
