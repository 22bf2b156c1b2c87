-- The parts of rules that have a meaning: their names, what a text says for each, and how that goes into a rule (RFC 5545, 3.3.10).
use Rattle.std.specs.Prelude.{ℕ, ℤ, List, [], ◌∷◌, codes, find, bytes_eq, nat_eq, if◌then◌else◌, Option, Some, None, option_map}
use Rattle.std.specs.List.{starts_with}
use Rattle.cal_model.specs.declared.rule.Rule.{Rule}
use Rattle.cal_model.specs.Values.RuleTexts.{Part, freq_of, number_of, until_of, weekday_named, day_of, list_of}
use Rattle.ical_values.specs.declared.rule_lists.CountForm.{CountForm}
use Rattle.ical_values.specs.declared.rule_lists.CountForm.TheVariants.{Month, Hour, Minute, Second}
use Rattle.ical_values.specs.declared.rule_lists.PlaceForm.{PlaceForm}
use Rattle.ical_values.specs.declared.rule_lists.PlaceForm.TheVariants.{Week, YearDay, MonthDay, SetPos}
use Rattle.ical_values.specs.declared.rule_parts.RulePart.{RulePart}
use Rattle.ical_values.specs.declared.rule_parts.RulePart.TheVariants.{Freq, Interval, Count, Until, WeekStart, Days, Counts, Places}
use Rattle.ical_values.specs.declared.rule_parts.PartValue.{PartValue}
use Rattle.ical_values.specs.declared.rule_parts.PartValue.TheVariants.{Freq as OfFreq, Interval as OfInterval, Count as OfCount, Until as OfUntil, WeekStart as OfWeekStart, Days as OfDays, Counts as OfCounts, Places as OfPlaces}
use Rattle.ical_values.specs.RuleForms.{count_by, place_by}

abbrev pub name_of : RulePart → List ℕ
name_of Freq = codes "FREQ"
name_of Interval = codes "INTERVAL"
name_of Count = codes "COUNT"
name_of Until = codes "UNTIL"
name_of WeekStart = codes "WKST"
name_of Days = codes "BYDAY"
name_of (Counts Month) = codes "BYMONTH"
name_of (Counts Hour) = codes "BYHOUR"
name_of (Counts Minute) = codes "BYMINUTE"
name_of (Counts Second) = codes "BYSECOND"
name_of (Places Week) = codes "BYWEEKNO"
name_of (Places YearDay) = codes "BYYEARDAY"
name_of (Places MonthDay) = codes "BYMONTHDAY"
name_of (Places SetPos) = codes "BYSETPOS"

-- all of them
abbrev pub parts : List RulePart
parts =
    Freq
    ∷ Interval
    ∷ Count
    ∷ Until
    ∷ WeekStart
    ∷ Counts Month
    ∷ Places Week
    ∷ Places YearDay
    ∷ Places MonthDay
    ∷ Days
    ∷ Counts Hour
    ∷ Counts Minute
    ∷ Counts Second
    ∷ Places SetPos
    ∷ []

-- the first of some parts that has a name in upper case
abbrev pub named_in : List RulePart → List ℕ → Option RulePart
named_in some name = find (λ part. bytes_eq name (name_of part)) some

abbrev pub part_named : List ℕ → Option RulePart
part_named name = named_in parts name

-- what a text says for a part
abbrev pub value_of : RulePart → List ℕ → Option PartValue
value_of Freq text = option_map OfFreq (freq_of text)
value_of Interval text = option_map OfInterval (number_of 1 999999999 text)
value_of Count text = option_map OfCount (number_of 1 999999999 text)
value_of Until text = option_map OfUntil (until_of text)
value_of WeekStart text = option_map OfWeekStart (weekday_named text)
value_of Days text = option_map OfDays (list_of day_of text)
value_of (Counts form) text = option_map (OfCounts form) (list_of (count_by form) text)
value_of (Places form) text = option_map (OfPlaces form) (list_of (place_by form) text)

abbrev pub put_counts : CountForm → List ℕ → Rule → Rule
put_counts Month numbers rule = record rule { by_month = numbers }
put_counts Hour numbers rule = record rule { by_hour = numbers }
put_counts Minute numbers rule = record rule { by_minute = numbers }
put_counts Second numbers rule = record rule { by_second = numbers }

abbrev pub put_places : PlaceForm → List ℤ → Rule → Rule
put_places Week numbers rule = record rule { by_week = numbers }
put_places YearDay numbers rule = record rule { by_year_day = numbers }
put_places MonthDay numbers rule = record rule { by_month_day = numbers }
put_places SetPos numbers rule = record rule { by_set_pos = numbers }

-- a rule with what a part says
abbrev pub put : PartValue → Rule → Rule
put (OfFreq freq) rule = record rule { freq = freq }
put (OfInterval number) rule = record rule { interval = number }
put (OfCount number) rule = record rule { count = Some number }
put (OfUntil until) rule = record rule { until = Some until }
put (OfWeekStart weekday) rule = record rule { week_start = weekday }
put (OfDays days) rule = record rule { by_day = days }
put (OfCounts form numbers) rule = put_counts form numbers rule
put (OfPlaces form numbers) rule = put_places form numbers rule

-- a rule with a part, where it is one of those with a meaning or one of others' own, `X-` before its name
abbrev pub put_named : Option RulePart → Part → Rule → Option Rule
put_named (Some known) part rule = option_map (λ value. put value rule) (value_of known part.1)
put_named None part rule = if starts_with nat_eq part.0 (codes "X-") then Some rule else None

abbrev pub put_part : Part → Rule → Option Rule
put_part part rule = put_named (part_named part.0) part rule
