-- The values of Content-Type and Content-Encoding, as far as they are looked at (RFC 9110, 8.3.1 and 8.4).
-- Given: the value of such a field, if it is there. Gives: whether the body can be what a method takes.
use Rattle.std.specs.Prelude.{ℕ, Bool, true, ◌||◌, ◌==◌, List, bytes_eq, codes, Option, Some, None}
use Rattle.std.specs.List.{before_first}
use Rattle.std.specs.Str.{str_to_ascii_lowercase}
use Rattle.httparse.specs.Grammar.{trim_ows}
use Rattle.cal_base.specs.Texts.Octets.{semicolon}

-- a media type without its parameters and without case
abbrev pub media_type : List ℕ → List ℕ
media_type value = str_to_ascii_lowercase (trim_ows (before_first (λ octet. octet == semicolon) value))

-- a Content-Type that XML can have; it may be absent
abbrev pub can_be_xml : Option (List ℕ) → Bool
can_be_xml None = true
can_be_xml (Some value) = bytes_eq (media_type value) (codes "text/xml") || bytes_eq (media_type value) (codes "application/xml")

-- one that a calendar object can have; it may be absent
abbrev pub can_be_calendar : Option (List ℕ) → Bool
can_be_calendar None = true
can_be_calendar (Some value) = bytes_eq (media_type value) (codes "text/calendar")

-- no coding, or `identity` in this very case
abbrev pub is_plain_coding : Option (List ℕ) → Bool
is_plain_coding None = true
is_plain_coding (Some value) = bytes_eq value (codes "identity")
