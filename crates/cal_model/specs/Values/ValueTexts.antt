-- The values that whole texts spell (RFC 5545, 3.3), as functions that compute; a text outside its grammar has none.
-- What a date, a time, a length and an offset are stands in `cal_moment`, whose readers go on from octet to octet. Here a date, a time or an offset is a text of the
-- numbers at its places, and a length is cut at its letters. That both give the same values is proved (`ValueLaws`, `LengthLaws`).
use Rattle.std.specs.Prelude.{ℕ, ◌+◌, ◌-◌, ◌*◌, ◌^◌, min, Bool, true, false, ◌&&◌, ◌||◌, ◌==◌, nat_lt, nat_le, if◌then◌else◌, List, [], ◌∷◌, ◌++◌, length, take, drop, fold, bytes_eq, codes, Option, Some, None, option_map, option_and_then, ℤ, pos, ◌+ℤ◌, ◌*ℤ◌}
use Rattle.cal_base.specs.Lines.ComponentTrees.{or_else}
use Rattle.cal_moment.specs.declared.stamp.Day.{Day}
use Rattle.cal_moment.specs.declared.stamp.Length.{Length}
use Rattle.cal_moment.specs.declared.stamp.Local.{Local}
use Rattle.cal_moment.specs.declared.stamp.Utc.{Utc}
use Rattle.cal_moment.specs.Calendar.{month_length, day_of_date, day_since_1970}
use Rattle.cal_moment.specs.Texts.{digits, date_text, time_text, utc_text, sign_text, signed}

-- the number whose digits are so many octets of a text from a place on
abbrev pub number_at : ℕ → ℕ → List ℕ → ℕ
number_at place count text = fold (λ n octet. n * 10 + (octet - 48)) 0 (take count (drop place text))

-- Dates and times (RFC 5545, 3.3.4 and 3.3.5)

-- the calendar of the years 1 to 9999 has the date
abbrev pub is_calendar_date : ℕ → ℕ → ℕ → Bool
is_calendar_date year month day =
    nat_le 1 year && nat_le year 9999 && nat_le 1 month && nat_le month 12 && nat_le 1 day && nat_le day (month_length year month)

-- the clock has the time; 60 is a leap second
abbrev pub is_clock_time : ℕ → ℕ → ℕ → Bool
is_clock_time hour minute second = nat_le hour 23 && nat_le minute 59 && nat_le second 60

-- DATE: `YYYYMMDD`
unfoldable pub date_of : List ℕ → Option Day
date_of text =
    let year = number_at 0 4 text in
    let month = number_at 4 2 text in
    let day = number_at 6 2 text in
    if is_calendar_date year month day && bytes_eq text (date_text year month day)
    then Some (record { 0 = day_since_1970 (day_of_date year month day) })
    else None

-- `HHMMSS`: the second of the day; a leap second is the second before it
unfoldable pub time_of : List ℕ → Option ℕ
time_of text =
    let hour = number_at 0 2 text in
    let minute = number_at 2 2 text in
    let second = number_at 4 2 text in
    if is_clock_time hour minute second && bytes_eq text (time_text hour minute second)
    then Some (3600 * hour + 60 * minute + min second 59)
    else None

-- a day and a second of it as a local time, and whether it is of UTC
abbrev pub local_time : Bool → Option Day → Option ℕ → Option (Local × Bool)
local_time utc (Some day) (Some second) = Some (record { day = day.0; second = second }, utc)
local_time utc (Some day) None = None
local_time utc None second = None

-- DATE-TIME: eight octets of a date, `T`, six of a time, and perhaps `Z`. The flag says that the `Z` is there.
unfoldable pub date_time_of : List ℕ → Option (Local × Bool)
date_time_of text =
    let utc = bytes_eq (drop 15 text) (codes "Z") in
    if bytes_eq (drop 8 text) (codes "T" ++ (take 6 (drop 9 text) ++ utc_text utc))
    then local_time utc (date_of (take 8 text)) (time_of (take 6 (drop 9 text)))
    else None

-- a local time in UTC as a moment
abbrev pub utc_of_local : Local → Utc
utc_of_local local = record { 0 = local.day *ℤ pos 86400 +ℤ pos local.second }

-- a DATE-TIME that is read as UTC, with or without the `Z`
abbrev pub moment_of : List ℕ → Option Utc
moment_of text = option_map (λ (time : Local × Bool). utc_of_local time.0) (date_time_of text)

-- Numbers (RFC 5545, 3.3.8)

-- one to nine digits
unfoldable pub count_of : List ℕ → Option ℕ
count_of text =
    let width = length text in
    let number = number_at 0 width text in
    if nat_le 1 width && nat_le width 9 && nat_lt number (10 ^ width) && bytes_eq text (digits width number) then Some number else None

-- `+` or `-`, or nothing, which is plus; the flag is true for the minus
abbrev pub sign_of : List ℕ → Option Bool
sign_of [] = Some false
sign_of (octet ∷ []) = if octet == 45 then Some true else (if octet == 43 then Some false else None)
sign_of (octet ∷ next ∷ text) = None

-- how many octets of a text are a sign before the rest: one or none
abbrev pub sign_length : List ℕ → ℕ
sign_length [] = 0
sign_length (octet ∷ text) = if (octet == 43) || (octet == 45) then 1 else 0

-- whether a text begins with a minus
abbrev pub is_negative : List ℕ → Bool
is_negative text = bytes_eq (take 1 text) (codes "-")

-- INTEGER: perhaps a sign, and one to nine digits
unfoldable pub integer_of : List ℕ → Option ℤ
integer_of text = option_map (signed (is_negative text)) (count_of (drop (sign_length text) text))

-- Lengths (RFC 5545, 3.3.6)

-- the text before the first octet of a kind, and the text behind it
abbrev pub cut : ℕ → List ℕ → Option (List ℕ × List ℕ)
cut separator [] = None
cut separator (octet ∷ text) =
    if octet == separator then Some ([], text) else option_map (λ (parts : List ℕ × List ℕ). (octet ∷ parts.0, parts.1)) (cut separator text)

-- a number before a letter at the front of a text, and the text behind the letter
abbrev pub counted : List ℕ × List ℕ → Option (ℕ × List ℕ)
counted parts = option_map (λ n. (n, parts.1)) (count_of parts.0)

abbrev pub count_before : ℕ → List ℕ → Option (ℕ × List ℕ)
count_before letter text = option_and_then counted (cut letter text)

-- the letters of hours, minutes and seconds, and how many seconds each is
abbrev pub time_letters : List (ℕ × ℕ)
time_letters = (72, 3600) ∷ (77, 60) ∷ (83, 1) ∷ []

-- numbers with such letters, in their order; each may be left out
abbrev pub parts_of : List (ℕ × ℕ) → List ℕ → Option ℕ
parts_of [] text = if length text == 0 then Some 0 else None
parts_of (unit ∷ units) text = elim (count_before unit.0 text) [
  | None ↦ parts_of units text
  | Some found ↦ option_map (λ others. found.0 * unit.1 + others) (parts_of units found.1)
]

-- hours, minutes and seconds, at least one of them
abbrev pub times_of : List ℕ → Option ℕ
times_of text = if length text == 0 then None else parts_of time_letters text

-- the number before a letter that ends the text
abbrev pub alone : ℕ × List ℕ → Option ℕ
alone found = if length found.1 == 0 then Some found.0 else None

abbrev pub count_with : ℕ → List ℕ → Option ℕ
count_with letter text = option_and_then alone (count_before letter text)

-- what stands behind the P without a T: weeks or days
abbrev pub days_of : List ℕ → Option ℕ
days_of text = or_else (option_map (λ n. 7 * n) (count_with 87 text)) (count_with 68 text)

-- days and seconds, where both are there
abbrev pub both : Option ℕ → Option ℕ → Option (ℕ × ℕ)
both (Some days) (Some seconds) = Some (days, seconds)
both (Some days) None = None
both None seconds = None

-- no days, or days with their D, before the T
abbrev pub days_before : List ℕ → Option ℕ
days_before text = if length text == 0 then Some 0 else count_with 68 text

-- what stands behind the P: days and seconds
abbrev pub body_of : List ℕ → Option (ℕ × ℕ)
body_of text = elim (cut 84 text) [
  | None ↦ both (days_of text) (Some 0)
  | Some parts ↦ both (days_before parts.0) (times_of parts.1)
]

-- the length of a sign and of days and seconds
abbrev pub signed_length : Bool → ℕ × ℕ → Length
signed_length negative amount = record { days = signed negative amount.0; seconds = signed negative amount.1 }

abbrev pub length_of_parts : List ℕ × List ℕ → Option Length
length_of_parts parts = option_and_then (λ negative. option_map (signed_length negative) (body_of parts.1)) (sign_of parts.0)

-- DURATION: perhaps a sign, `P`, and weeks, or days, or times, or days and times
unfoldable pub length_of : List ℕ → Option Length
length_of text = option_and_then length_of_parts (cut 80 text)

-- Offsets (RFC 5545, 3.3.14)

-- the two digits of a second, where there are any
abbrev pub second_text : List ℕ → List ℕ
second_text text = if length text == 5 then [] else digits 2 (number_at 5 2 text)

-- UTC-OFFSET: a sign, hour, minute and perhaps second, in seconds
unfoldable pub offset_of : List ℕ → Option ℤ
offset_of text =
    let negative = is_negative text in
    let hour = number_at 1 2 text in
    let minute = number_at 3 2 text in
    let second = number_at 5 2 text in
    if nat_le hour 23 && nat_le minute 59 && nat_le second 59
    && bytes_eq text (sign_text negative ++ (digits 2 hour ++ (digits 2 minute ++ second_text text)))
    then Some (signed negative (3600 * hour + 60 * minute + second))
    else None

-- Texts (RFC 5545, 3.3.11)

-- what a backslash and this octet stand for
abbrev pub escaped : ℕ → Option ℕ
escaped octet =
    if (octet == 110) || (octet == 78) then Some 10
    else (if (octet == 44) || (octet == 59) || (octet == 92) then Some octet else None)

-- what two octets stand for, where they are an escape
abbrev pub pair_of : ℕ → ℕ → Option ℕ
pair_of first second = if first == 92 then escaped second else None

-- TEXT without its escapes: `\n` and `\N` are a line feed, and `\,`, `\;` and `\\` the second octet; any other backslash stays
abbrev pub unescaped : List ℕ → List ℕ
unescaped [] = []
unescaped (octet ∷ []) = octet ∷ []
unescaped (first ∷ second ∷ text) = elim (pair_of first second) [
  | None ↦ first ∷ unescaped (second ∷ text)
  | Some meant ↦ meant ∷ unescaped text
]
