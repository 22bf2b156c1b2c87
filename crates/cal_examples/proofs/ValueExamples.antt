-- Texts of values: those of RFC 5545, 3.3, and those that tell two readings apart.
use Rattle.std.specs.Prelude.{◌≡◌, refl, ℕ, true, false, List, [], ◌∷◌, Some, None, codes, ℤ, pos, neg_ℤ}
use Rattle.cal_base.specs.declared.line.Line.{Line}
use Rattle.cal_base.specs.declared.line.Param.{Param}
use Rattle.cal_moment.specs.declared.stamp.Length.{Length}
use Rattle.cal_moment.specs.declared.stamp.Local.{Local}
use Rattle.cal_moment.specs.declared.stamp.PeriodEnd.TheVariants.{At as EndAt, After}
use Rattle.cal_moment.specs.declared.stamp.Stamp.TheVariants.{Date, Floating, Zoned, Utc as AtUtc}
use Rattle.cal_moment.specs.Calendar.{day_of_date, day_since_1970}
use Rattle.cal_model.specs.declared.object.Related.TheVariants.{Start, End}
use Rattle.cal_model.specs.declared.object.Trigger.TheVariants.{At as TriggerAt, From}
use Rattle.cal_model.specs.Values.ValueTexts.{count_of, integer_of, date_of, time_of, date_time_of, length_of, offset_of, unescaped}
use Rattle.cal_model.specs.Values.StampTexts.{stamps_in_grammar, stamps_of, periods_in_grammar, periods_of, has_periods, trigger_of, repeat_of}
use Rattle.std.proofs.Common.{arith}
use Rattle.std.proofs.lemmas.Option.{none-some}
use Rattle.cal_model.specs.Values.BadValues.{IsBadStampsAt, IsBadPeriodsAt}

-- a day of the calendar since 1970
abbrev day : ℕ → ℕ → ℕ → ℤ
day y m d = day_since_1970 (day_of_date y m d)

abbrev local : ℤ → ℕ → Local
local d s = record { day = d; second = s }

abbrev days_and_seconds : ℤ → ℤ → Length
days_and_seconds d s = record { days = d; seconds = s }

-- Dates and times

-- RFC 5545, 3.3.4: 14 July 1997
july_14 : date_of (codes "19970714") ≡ Some (record { 0 = pos 10056 })
unfolding date_of
july_14 = refl

-- 1900 had no 29 February
no_leap_day : date_of (codes "19000229") ≡ None
unfolding date_of
no_leap_day = refl

-- RFC 5545, 3.3.5: 11 p.m. on 18 January 1998, without a zone, and the same in UTC a day later
form_1 : date_time_of (codes "19980118T230000") ≡ Some (local (day 1998 1 18) 82800, false)
unfolding date_time_of date_of time_of
form_1 = refl

form_2 : date_time_of (codes "19980119T070000Z") ≡ Some (local (day 1998 1 19) 25200, true)
unfolding date_time_of date_of time_of
form_2 = refl

-- RFC 5545, 3.3.5: a leap second is the second before it, in any minute
leap_second : date_time_of (codes "19970630T235960Z") ≡ Some (local (day 1997 6 30) 86399, true)
unfolding date_time_of date_of time_of
leap_second = refl

-- RFC 5545, 3.3.5: an offset is no part of a time; nor is more than one Z, or a lower-case one
with_offset : date_time_of (codes "19980119T230000-0800") ≡ None
unfolding date_time_of date_of time_of
with_offset = refl

two_zs : date_time_of (codes "19980119T230000ZZ") ≡ None
unfolding date_time_of date_of time_of
two_zs = refl

lower_case : date_time_of (codes "19980119t230000") ≡ None
unfolding date_time_of date_of time_of
lower_case = refl

-- Numbers: RFC 5545, 3.3.8
integer_positive : integer_of (codes "+1234567890") ≡ None
unfolding integer_of count_of
integer_positive = refl

integer_nine_digits : integer_of (codes "+123456789") ≡ Some (pos 123_456_789)
unfolding integer_of count_of
integer_nine_digits = refl

integer_negative : integer_of (codes "-432109876") ≡ Some (neg_ℤ (pos 432_109_876))
unfolding integer_of count_of
integer_negative = refl

integer_zeros : integer_of (codes "-000") ≡ Some (pos 0)
unfolding integer_of count_of
integer_zeros = refl

integer_colon : integer_of (codes "1:") ≡ None
unfolding integer_of count_of
integer_colon = refl

integer_sign : integer_of (codes "+") ≡ None
unfolding integer_of count_of
integer_sign = refl

-- Lengths: RFC 5545, 3.3.6
fifteen_days : length_of (codes "P15DT5H0M20S") ≡ Some (days_and_seconds (pos 15) (pos 18020))
unfolding length_of count_of
fifteen_days = refl

seven_weeks : length_of (codes "P7W") ≡ Some (days_and_seconds (pos 49) (pos 0))
unfolding length_of count_of
seven_weeks = refl

quarter_before : length_of (codes "-PT15M") ≡ Some (days_and_seconds (pos 0) (neg_ℤ (pos 900)))
unfolding length_of count_of
quarter_before = refl

minutes_left_out : length_of (codes "+PT1H5S") ≡ Some (days_and_seconds (pos 0) (pos 3605))
unfolding length_of count_of
minutes_left_out = refl

days_behind_weeks : length_of (codes "P1W2D") ≡ None
unfolding length_of count_of
days_behind_weeks = refl

hours_without_t : length_of (codes "P1H") ≡ None
unfolding length_of count_of
hours_without_t = refl

no_times : length_of (codes "P1DT") ≡ None
unfolding length_of count_of
no_times = refl

minutes_before_hours : length_of (codes "PT1M2H") ≡ None
unfolding length_of count_of
minutes_before_hours = refl

nothing_long : length_of (codes "P") ≡ None
unfolding length_of count_of
nothing_long = refl

ten_digits : length_of (codes "P1234567890D") ≡ None
unfolding length_of count_of
ten_digits = refl

-- Offsets: RFC 5545, 3.3.14
new_york : offset_of (codes "-0500") ≡ Some (neg_ℤ (pos 18000))
unfolding offset_of
new_york = refl

one_east : offset_of (codes "+0100") ≡ Some (pos 3600)
unfolding offset_of
one_east = refl

with_second : offset_of (codes "+013245") ≡ Some (pos 5565)
unfolding offset_of
with_second = refl

no_sign : offset_of (codes "0100") ≡ None
unfolding offset_of
no_sign = refl

half_a_second : offset_of (codes "+01324") ≡ None
unfolding offset_of
half_a_second = refl

-- Texts: RFC 5545, 3.3.11
conference : unescaped (codes "Project XYZ Final Review\\nConference Room - 3B\\nCome Prepared.") ≡ codes "Project XYZ Final Review\nConference Room - 3B\nCome Prepared."
conference = refl

-- each pair is taken once, and a backslash before another octet stays
backslashes : unescaped (codes "a\\\\n\\,\\;\\N\\x\\") ≡ codes "a\\n,;\n\\x\\"
backslashes = refl

-- Lines

abbrev line : List ℕ → List Param → List ℕ → Line
line name params value = record { name = name; params = params; value = value; raw = [] }

abbrev with : List ℕ → List ℕ → List Param
with name value = record { name = name; values = value ∷ [] } ∷ []

abbrev zones : List (List ℕ)
zones = codes "Europe/Berlin" ∷ codes "America/New_York" ∷ []

-- RFC 5545, 3.3.5, form 3: the second of the object's zones
form_3 : stamps_of zones (line (codes "DTSTART") (with (codes "TZID") (codes "America/New_York")) (codes "19970714T133000")) ≡ Some (Zoned (local (day 1997 7 14) 48600) 1 ∷ [])
unfolding stamps_in_grammar date_time_of date_of time_of
form_3 = refl

-- a zone that the object lacks is in the grammar, and is no stamp; names of zones are compared with case
no_such_zone : stamps_of zones (line (codes "DTSTART") (with (codes "TZID") (codes "america/new_york")) (codes "19970714T133000")) ≡ None
unfolding stamps_in_grammar date_time_of date_of time_of
no_such_zone = refl

-- it is ignored beside UTC and beside a date
zone_beside_utc : stamps_of zones (line (codes "DTSTART") (with (codes "TZID") (codes "Nowhere")) (codes "19700101T000001Z")) ≡ Some (AtUtc (record { 0 = pos 1 }) ∷ [])
unfolding stamps_in_grammar date_time_of date_of time_of
zone_beside_utc = refl

zone_beside_date : stamps_of zones (line (codes "DTSTART") (with (codes "TZID") (codes "Nowhere")) (codes "19700102")) ≡ Some (Date (record { 0 = pos 1 }) ∷ [])
unfolding stamps_in_grammar date_time_of date_of time_of
zone_beside_date = refl

-- eight octets are a date even where VALUE says DATE-TIME, and a DATE has eight; VALUE is compared without case
eight_octets : stamps_of zones (line (codes "DTSTART") (with (codes "VALUE") (codes "DATE-TIME")) (codes "19700102")) ≡ Some (Date (record { 0 = pos 1 }) ∷ [])
unfolding stamps_in_grammar date_time_of date_of time_of
eight_octets = refl

date_with_time : stamps_of zones (line (codes "DTSTART") (with (codes "VALUE") (codes "date")) (codes "19700102T000000")) ≡ None
unfolding stamps_in_grammar date_time_of date_of time_of
date_with_time = refl

-- EXDATE is a list, DTSTART is not, and no item is empty
two_dates : stamps_of zones (line (codes "EXDATE") [] (codes "19700102,19700103T000001")) ≡ Some (Date (record { 0 = pos 1 }) ∷ Floating (local (pos 2) 1) ∷ [])
unfolding stamps_in_grammar date_time_of date_of time_of
two_dates = refl

two_starts : stamps_of zones (line (codes "DTSTART") [] (codes "19700102,19700103")) ≡ None
unfolding stamps_in_grammar date_time_of date_of time_of
two_starts = refl

empty_item : stamps_of zones (line (codes "EXDATE") [] (codes "19700102,")) ≡ None
unfolding stamps_in_grammar date_time_of date_of time_of
empty_item = refl

-- DTSTAMP is in UTC with or without its Z, and is no date
utc_without_z : stamps_of zones (line (codes "DTSTAMP") (with (codes "TZID") (codes "Nowhere")) (codes "19700102T000000")) ≡ Some (AtUtc (record { 0 = pos 86400 }) ∷ [])
unfolding stamps_in_grammar date_time_of date_of time_of
utc_without_z = refl

utc_date : stamps_of zones (line (codes "DTSTAMP") (with (codes "VALUE") (codes "DATE")) (codes "19700102")) ≡ None
unfolding stamps_in_grammar date_time_of date_of time_of
utc_date = refl

-- Periods: RFC 5545, 3.3.9
explicit_period : periods_of zones (line (codes "RDATE") (with (codes "VALUE") (codes "PERIOD")) (codes "19970101T180000Z/19970102T070000Z")) ≡ Some (record { start = AtUtc (record { 0 = pos 852_141_600 }); end = EndAt (AtUtc (record { 0 = pos 852_188_400 })) } ∷ [])
unfolding periods_in_grammar date_time_of date_of time_of length_of count_of
explicit_period = refl

period_by_length : periods_of zones (line (codes "RDATE") (with (codes "VALUE") (codes "PERIOD")) (codes "19970101T180000Z/PT5H30M")) ≡ Some (record { start = AtUtc (record { 0 = pos 852_141_600 }); end = After (days_and_seconds (pos 0) (pos 19800)) } ∷ [])
unfolding periods_in_grammar date_time_of date_of time_of length_of count_of
period_by_length = refl

-- a length with a minus, a date and a moment alone are no periods
period_backwards : periods_of zones (line (codes "RDATE") (with (codes "VALUE") (codes "PERIOD")) (codes "19970101T180000Z/-PT5H")) ≡ None
unfolding periods_in_grammar date_time_of date_of time_of length_of count_of
period_backwards = refl

period_of_dates : periods_of zones (line (codes "RDATE") (with (codes "VALUE") (codes "PERIOD")) (codes "19970101/19970102")) ≡ None
unfolding periods_in_grammar date_time_of date_of time_of length_of count_of
period_of_dates = refl

moment_alone : periods_of zones (line (codes "RDATE") (with (codes "VALUE") (codes "PERIOD")) (codes "19970101T180000Z")) ≡ None
unfolding periods_in_grammar date_time_of date_of time_of length_of count_of
moment_alone = refl

-- RFC 5545, 3.8.2.6: FREEBUSY is a list of periods in UTC, also without the Z
two_busy : periods_of zones (line (codes "FREEBUSY") (with (codes "FBTYPE") (codes "FREE")) (codes "19700101T000000Z/PT3H,19700102T000000/+PT1H")) ≡ Some (record { start = AtUtc (record { 0 = pos 0 }); end = After (days_and_seconds (pos 0) (pos 10800)) } ∷ record { start = AtUtc (record { 0 = pos 86400 }); end = After (days_and_seconds (pos 0) (pos 3600)) } ∷ [])
unfolding periods_in_grammar date_time_of date_of time_of length_of count_of
two_busy = refl

-- RFC 5545, 3.8.5.2: an RDATE alone has periods, and only where VALUE says so
rdate_periods : has_periods (line (codes "RDATE") (with (codes "VALUE") (codes "period")) []) ≡ true
rdate_periods = refl

exdate_periods : has_periods (line (codes "EXDATE") (with (codes "VALUE") (codes "PERIOD")) []) ≡ false
exdate_periods = refl

-- Alarms: RFC 5545, 3.8.6.3
before_start : trigger_of (line (codes "TRIGGER") [] (codes "-PT15M")) ≡ Some (From Start (days_and_seconds (pos 0) (neg_ℤ (pos 900))))
unfolding trigger_of length_of count_of
before_start = refl

after_end : trigger_of (line (codes "TRIGGER") (with (codes "RELATED") (codes "END")) (codes "PT5M")) ≡ Some (From End (days_and_seconds (pos 0) (pos 300)))
unfolding trigger_of length_of count_of
after_end = refl

at_moment : trigger_of (line (codes "TRIGGER") (with (codes "VALUE") (codes "DATE-TIME")) (codes "19980101T050000Z")) ≡ Some (TriggerAt (record { 0 = pos 883_630_800 }))
unfolding trigger_of date_time_of date_of time_of
at_moment = refl

-- a moment needs its VALUE, and with it a length is none
moment_without_value : trigger_of (line (codes "TRIGGER") [] (codes "19980101T050000Z")) ≡ None
unfolding trigger_of length_of count_of
moment_without_value = refl

length_with_value : trigger_of (line (codes "TRIGGER") (with (codes "VALUE") (codes "DATE-TIME")) (codes "-PT15M")) ≡ None
unfolding trigger_of date_time_of date_of time_of
length_with_value = refl

-- RFC 5545, 3.8.6.2
four_times : repeat_of (codes "4") ≡ Some 4
unfolding integer_of count_of
four_times = refl

less_than_once : repeat_of (codes "-1") ≡ None
unfolding integer_of count_of
less_than_once = refl

-- Places

-- where only a zone is missing the place is 0, for a stamp and for a period
missing_zone : IsBadStampsAt zones (line (codes "DTSTART") (with (codes "TZID") (codes "Nowhere")) (codes "19970714T133000")) 0
unfolding stamps_in_grammar date_time_of date_of time_of
missing_zone = (refl, refl)

missing_zone_of_period : IsBadPeriodsAt zones (line (codes "RDATE") (with (codes "TZID") (codes "Nowhere")) (codes "19970714T133000/PT1H")) 0
unfolding periods_in_grammar date_time_of date_of time_of length_of count_of
missing_zone_of_period = (refl, refl)

-- outside the grammar a missing zone does not matter: the item behind the comma is missing
empty_item_at_end : IsBadStampsAt zones (line (codes "EXDATE") (with (codes "TZID") (codes "Nowhere")) (codes "19970714T133000,")) 16
unfolding stamps_in_grammar date_time_of date_of time_of
empty_item_at_end = record {
  outside = λ is. none-some is.0 is.1;
  within = omega arith;
  begins = (codes "19970715", (Zoned (local (day 1997 7 14) 48600) 2 ∷ Date (record { 0 = day 1997 7 15 }) ∷ [], refl));
  longest = λ n above most begins. omega (arith, above, most);
}
