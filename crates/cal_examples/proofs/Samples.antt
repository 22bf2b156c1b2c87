-- The event and the ranges of the examples.
use Rattle.std.specs.Prelude.{ℕ, List, codes, pos}
use Rattle.cal_model.specs.declared.reply.Etag.{Etag}
use Rattle.cal_model.specs.declared.request.Event.{Event}
use Rattle.cal_model.specs.declared.request.Request.{Request}
use Rattle.cal_model.specs.declared.row.Range.{Range}

-- a meeting from 09:00 to 10:00 on 10 March 2025, in UTC
abbrev pub stand_up_octets : List ℕ
stand_up_octets = codes "BEGIN:VCALENDAR\r\nVERSION:2.0\r\nPRODID:-//a//EN\r\nBEGIN:VEVENT\r\nUID:one\r\nDTSTAMP:20250101T000000Z\r\nDTSTART:20250310T090000Z\r\nDTEND:20250310T100000Z\r\nSUMMARY:Stand-up\r\nEND:VEVENT\r\nEND:VCALENDAR\r\n"

-- their SHA-256, by the program sha256sum
abbrev pub stand_up_etag : Etag
stand_up_etag = record { 0 = codes "e2b908a58297f6090922388fbe2f52e0c09d7f6986555b4ac3424e3347f2b4e5" }

-- 08:00, 09:00, 10:00 and 11:00 of that day, in seconds since 1970
abbrev pub range_of : ℕ → ℕ → Range
range_of start end = record { start = record { 0 = pos start }; end = record { 0 = pos end } }

abbrev pub eight : ℕ
eight = 1_741_593_600

abbrev pub nine : ℕ
nine = 1_741_597_200

abbrev pub ten : ℕ
ten = 1_741_600_800

abbrev pub eleven : ℕ
eleven = 1_741_604_400

-- 09:46:40 of that day
abbrev pub moment : ℕ
moment = 1_741_600_000

-- a request at that moment
abbrev pub event_at : Request → Event
event_at request = record { session = 0; who = 0; moment = pos moment; request = request }
