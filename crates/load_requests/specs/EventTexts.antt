-- The parts of the text of an event.
use Rattle.std.specs.Prelude.{ℕ, List, ◌++◌, ◌==◌, if◌then◌else◌, codes, decimal}

-- up to the UID's number, and the line behind it up to the start
abbrev pub event_front : ℕ → List ℕ
event_front number =
    codes "BEGIN:VCALENDAR\r\nVERSION:2.0\r\nPRODID:-//caldav_server//EN\r\nBEGIN:VEVENT\r\nUID:" ++ (decimal number ++ codes "\r\nDTSTAMP:20250101T000000Z\r\nDTSTART:")

-- behind the start, the line of the length
abbrev pub length_lines : ℕ → List ℕ
length_lines minutes = codes "\r\nDURATION:PT" ++ (decimal minutes ++ codes "M\r\n")

-- how it recurs, by the number drawn
abbrev pub rule_text : ℕ → List ℕ
rule_text form =
    if form == 1 then codes "RRULE:FREQ=DAILY;COUNT=30\r\n"
    else (if form == 2 then codes "RRULE:FREQ=WEEKLY;COUNT=52\r\n"
    else (if form == 3 then codes "RRULE:FREQ=MONTHLY;COUNT=24\r\n" else codes ""))

abbrev pub event_end : List ℕ
event_end = codes "END:VEVENT\r\nEND:VCALENDAR\r\n"
