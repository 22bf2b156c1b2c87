-- What the sessions of the command `load` draw.
use Rattle.std.specs.Prelude.{◌≡◌, refl, length, codes}
use Rattle.std.specs.Fmt.{digits}
use Rattle.cal_moment.specs.Calendar.{year_of, month_of, day_of_month}
use Rattle.cal_model.specs.Load.LoadRequests.{draw, drawn_body, load_user, requests_of}

-- the draws of session 0 of one event: day 212, hour 8, form 3, 127 minutes
draws : (draw 1 0 0 365 ≡ 212) × (draw 1 0 1 24 ≡ 8) × (draw 1 0 2 4 ≡ 3) × (draw 1 0 3 180 ≡ 127)
draws = (refl, refl, refl, refl)

-- its event, which recurs each month
monthly_event : drawn_body 1 0 0 ≡ codes "BEGIN:VCALENDAR\r\nVERSION:2.0\r\nPRODID:-//caldav_server//EN\r\nBEGIN:VEVENT\r\nUID:0\r\nDTSTAMP:20250101T000000Z\r\nDTSTART:20250801T080000Z\r\nDURATION:PT128M\r\nRRULE:FREQ=MONTHLY;COUNT=24\r\nEND:VEVENT\r\nEND:VCALENDAR\r\n"
unfolding digits year_of month_of day_of_month
monthly_event = refl

-- the second event of session 2 of two events each, which does not recur
single_event : drawn_body 2 2 1 ≡ codes "BEGIN:VCALENDAR\r\nVERSION:2.0\r\nPRODID:-//caldav_server//EN\r\nBEGIN:VEVENT\r\nUID:1\r\nDTSTAMP:20250101T000000Z\r\nDTSTART:20250618T070000Z\r\nDURATION:PT169M\r\nEND:VEVENT\r\nEND:VCALENDAR\r\n"
unfolding digits year_of month_of day_of_month
single_event = refl

-- users have two digits, and behind ten events come two reports
user : load_user 3 ≡ codes "u03"
unfolding digits
user = refl

requests : (length (requests_of 9 0) ≡ 9) × (length (requests_of 10 0) ≡ 12)
requests = (refl, refl)
