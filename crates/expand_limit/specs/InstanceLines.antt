-- The lines of an instance, once it is known what stands behind its DTSTART; and rows that can be shown.
use Rattle.std.specs.Prelude.{◌&&◌, ◌||◌, if◌then◌else◌, List, [], ◌∷◌, bytes_eq, codes, is_some}
use Rattle.cal_base.specs.declared.line.Line.{Line}
use Rattle.cal_moment.specs.Calendar.{IsCalendarMoment}
use Rattle.cal_model.specs.declared.row.Row.{Row}
use Rattle.cal_model.specs.Selections.Expansion.{end_line}
use Rattle.cal_model.specs.Selections.RowLines.{new_line, rewritten}
use Rattle.expand_limit.specs.declared.instance.Instance.{Instance}

-- a row whose moments lie in the years 1 to 9999
pub record IsShownRow (row : Row) : Type 0 where
  pub id : IsCalendarMoment row.id
  pub start : IsCalendarMoment row.start
  pub end : IsCalendarMoment row.end

abbrev pub lines_after_start_by : Instance → List Line
lines_after_start_by instance =
    if instance.shows_id
    then new_line (codes "RECURRENCE-ID") instance.row.now.id_kind instance.row.now.id ∷ (if instance.shows_end then end_line instance.component.now instance.row.now ∷ [] else [])
    else []

-- a line of a component in one instance of it
abbrev pub instance_line_by : Instance → Line → List Line
instance_line_by instance line =
    let row = instance.row.now in
    if bytes_eq line.name (codes "DTSTART") then rewritten row.kind row.start line ∷ lines_after_start_by instance
    else (if bytes_eq line.name (codes "DTEND") || bytes_eq line.name (codes "DUE") then rewritten row.kind row.end line ∷ []
    else (if bytes_eq line.name (codes "RECURRENCE-ID") then rewritten row.id_kind row.id line ∷ []
    else (if bytes_eq line.name (codes "DURATION") && is_some instance.component.now.start then end_line instance.component.now row ∷ []
    else line ∷ [])))
