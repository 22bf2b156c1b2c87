-- The text of the answer to a query for busy times: a VCALENDAR with one VFREEBUSY (RFC 4791, 7.10; RFC 5545, 3.6.4 and 3.8.2.6).
-- A list of whole lines; which runs there are stands in `BusyRuns`.
use Rattle.std.specs.Prelude.{ℕ, List, [], ◌∷◌, ◌++◌, map, codes, ℤ}
use Rattle.cal_moment.specs.Calendar.{moment_of_seconds}
use Rattle.cal_moment.specs.Texts.{written_local}
use Rattle.cal_model.specs.declared.object.Class.{Class}
use Rattle.cal_model.specs.declared.object.Class.TheVariants.{Busy, Unavailable, Tentative}
use Rattle.cal_model.specs.declared.row.Range.{Range}
use Rattle.cal_model.specs.Busy.BusyTimes.{BusyTime}
use Rattle.cal_model.specs.Words.TextLines.{lines_text}

-- a moment in UTC
abbrev pub utc_text : ℤ → List ℕ
utc_text seconds = written_local (moment_of_seconds seconds) ++ codes "Z"

-- the value of FBTYPE (RFC 5545, 3.2.9)
abbrev pub class_name : Class → List ℕ
class_name Busy = codes "BUSY"
class_name Unavailable = codes "BUSY-UNAVAILABLE"
class_name Tentative = codes "BUSY-TENTATIVE"

-- a line for each run
abbrev pub run_line : BusyTime → List ℕ
run_line run = codes "FREEBUSY;FBTYPE=" ++ (class_name run.class ++ (codes ":" ++ (utc_text run.start ++ (codes "/" ++ utc_text run.end))))

abbrev pub head_lines : ℤ → Range → List (List ℕ)
head_lines moment range =
    codes "BEGIN:VCALENDAR" ∷ codes "VERSION:2.0" ∷ codes "PRODID:-//caldav_server//EN" ∷ codes "BEGIN:VFREEBUSY" ∷ codes "UID:free-busy"
    ∷ (codes "DTSTAMP:" ++ utc_text moment) ∷ (codes "DTSTART:" ++ utc_text range.start.0) ∷ (codes "DTEND:" ++ utc_text range.end.0) ∷ []

-- the answer at a moment, for a range and its runs
abbrev pub free_busy_text : ℤ → Range → List BusyTime → List ℕ
free_busy_text moment range runs =
    lines_text (head_lines moment range ++ (map run_line runs ++ (codes "END:VFREEBUSY" ∷ codes "END:VCALENDAR" ∷ [])))
