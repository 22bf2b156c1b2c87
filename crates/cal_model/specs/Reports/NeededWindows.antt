-- The windows in which a report may have to look at the rows of an object. Windows are 64 days, counted from 1 January 1970.
-- The standards know no windows: these bound what a report expands, and say nothing of its answer.
use Rattle.std.specs.Prelude.{◌+◌, Bool, ◌&&◌, ◌||◌, not, List, map, filter, filter_map, option_map, ℤ, pos, ◌+ℤ◌, ◌-ℤ◌, int_le, nat_abs, Option, Some}
use Rattle.std.specs.List.{list_any}
use Rattle.cal_moment.specs.declared.stamp.Stamp.{Stamp}
use Rattle.cal_model.specs.declared.object.Object.{Object}
use Rattle.cal_model.specs.declared.report.ReportRequest.{ReportRequest}
use Rattle.cal_model.specs.declared.row.Range.{Range}
use Rattle.cal_model.specs.Instances.Alignment.{value_of}
use Rattle.cal_model.specs.Ranges.Cost.{margin, window_meets}
use Rattle.cal_model.specs.Words.Limits.{first_date, last_date}
use Rattle.cal_model.specs.Reports.NamedRanges.{ranges_named}
use Rattle.cal_model.specs.Words.Lists.{is_empty, numbers_between}
use Rattle.cal_model.specs.Words.Integers.{same_int}
use Rattle.cal_model.specs.Instances.Rows.{Numbered, overrides, own_start, nominal_beside, window_at}

-- the windows between the first and the last stated date, in order
abbrev pub first_window : ℤ
first_window = window_at first_date

abbrev pub last_window : ℤ
last_window = window_at last_date

abbrev pub stated_windows : List ℤ
stated_windows = map (λ n. first_window +ℤ pos n) (numbers_between 0 (nat_abs (last_window -ℤ first_window) + 1))

abbrev pub is_stated_window : ℤ → Bool
is_stated_window window = int_le first_window window && int_le window last_window

-- the windows that hold the start of an override, by its local digits
abbrev pub start_window : Object → Stamp → ℤ
start_window object start = window_at (nominal_beside object.zones (value_of object.zones start) (Some start))

abbrev pub window_of_override : Object → Numbered → Option ℤ
window_of_override object n = option_map (start_window object) (own_start n.component)

abbrev pub override_windows : Object → List ℤ
override_windows object = filter_map (window_of_override object) (overrides object)

-- A window counts for some ranges and an object where it meets one of the ranges, widened by the object's margin, or holds the start of an override. Where there is no range, none counts.
abbrev pub meets_some : Object → List Range → ℤ → Bool
meets_some object ranges window = list_any (λ range. window_meets (margin object) range window) ranges

abbrev pub counts : Object → List Range → ℤ → Bool
counts object ranges window =
    not (is_empty ranges) && (meets_some object ranges window || list_any (same_int window) (override_windows object))

-- The windows of an object that a report may need, in order: those of the stated dates alone.
abbrev pub windows_needed : Object → ReportRequest → List ℤ
windows_needed object report = filter (counts object (ranges_named report)) stated_windows

-- whether a window is one of them
abbrev pub is_needed : Object → ReportRequest → ℤ → Bool
is_needed object report window = is_stated_window window && counts object (ranges_named report) window
