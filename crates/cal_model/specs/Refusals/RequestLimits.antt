-- The limits of what a calendar may hold and of what is answered (RFC 4791, 5.2.5 to 5.2.8 and 7.8, leave them to the server). They are this server's own; what a home may accept in all, and the dates that are served, are in `Words.Limits`.
-- Given: nothing. Each number is the most that is taken; what one more is answered stands where the limit is used.
use Rattle.std.specs.Prelude.{ℕ}

-- the octets of one object, and its instances
abbrev pub resource_limit : ℕ
resource_limit = 262_144

abbrev pub instances_limit : ℕ
instances_limit = 250_000

-- the calendars of a home
abbrev pub calendars_limit : ℕ
calendars_limit = 64

-- the texts of a calendar; the octets of the name of one, namespace and local name together, and those of its value
abbrev pub texts_limit : ℕ
texts_limit = 64

abbrev pub name_limit : ℕ
name_limit = 256

abbrev pub value_limit : ℕ
value_limit = 4096

-- the octets of the text of a calendar's time zone
abbrev pub zone_limit : ℕ
zone_limit = 262_144

-- the octets of an answer to a report or a PROPFIND
abbrev pub answer_limit : ℕ
answer_limit = 67_108_864
