-- The rule of recurrence that a text is (RFC 5545, 3.3.10): its parts, what each of them can say, and what cannot stand together.
-- The text is cut at its semicolons and commas as a whole, and what cannot stand together is a test of the rule that comes out.
use Rattle.std.specs.Prelude.{ℕ, ◌+◌, ◌-◌, ◌*◌, min, max, Bool, true, false, not, ◌&&◌, ◌||◌, ◌==◌, nat_eq, nat_lt, nat_le, if◌then◌else◌, List, [], ◌∷◌, map, length, take, drop, find, bytes_eq, codes, Option, Some, None, is_some, option_map, option_and_then, ℤ, pos, int_le, nat_abs}
use Rattle.std.specs.List.{list_any, starts_with}
use Rattle.cal_base.specs.Lines.ComponentTrees.{or_else}
use Rattle.cal_base.specs.Lines.ContentLines.{pieces, every, is_name}
use Rattle.cal_base.specs.Texts.Octets.{comma, semicolon, equals_sign}
use Rattle.cal_base.specs.Texts.Text.{raised_all}
use Rattle.cal_moment.specs.declared.stamp.Local.{Local}
use Rattle.cal_model.specs.declared.rule.DayPart.{DayPart}
use Rattle.cal_model.specs.declared.rule.Freq.{Freq}
use Rattle.cal_model.specs.declared.rule.Freq.TheVariants.{Secondly, Minutely, Hourly, Daily, Weekly, Monthly, Yearly}
use Rattle.cal_model.specs.declared.rule.Rule.{Rule}
use Rattle.cal_model.specs.declared.rule.Until.{Until}
use Rattle.cal_model.specs.declared.rule.Until.TheVariants.{Day as UntilDay, Local as UntilLocal, Utc as UntilUtc}
use Rattle.cal_model.specs.Values.ValueTexts.{date_of, date_time_of, utc_of_local, integer_of, cut}

-- What a part can say

-- a word of a table, without ASCII case
abbrev pub word_of : {X : Type 0} → List (List ℕ × X) → List ℕ → Option X
word_of {X} table text = option_map (λ (row : List ℕ × X). row.1) (find (λ (row : List ℕ × X). bytes_eq row.0 (raised_all text)) table)

abbrev pub frequencies : List (List ℕ × Freq)
frequencies =
    (codes "SECONDLY", Secondly)
    ∷ (codes "MINUTELY", Minutely)
    ∷ (codes "HOURLY", Hourly)
    ∷ (codes "DAILY", Daily)
    ∷ (codes "WEEKLY", Weekly)
    ∷ (codes "MONTHLY", Monthly)
    ∷ (codes "YEARLY", Yearly)
    ∷ []

abbrev pub freq_of : List ℕ → Option Freq
freq_of text = word_of frequencies text

abbrev pub weekdays : List (List ℕ × ℕ)
weekdays = (codes "MO", 0) ∷ (codes "TU", 1) ∷ (codes "WE", 2) ∷ (codes "TH", 3) ∷ (codes "FR", 4) ∷ (codes "SA", 5) ∷ (codes "SU", 6) ∷ []

abbrev pub weekday_named : List ℕ → Option ℕ
weekday_named text = word_of weekdays text

-- an INTEGER between two natural numbers
abbrev pub if_between : ℕ → ℕ → ℤ → Option ℕ
if_between low high n = if int_le (pos low) n && int_le n (pos high) then Some (nat_abs n) else None

abbrev pub number_of : ℕ → ℕ → List ℕ → Option ℕ
number_of low high text = option_and_then (if_between low high) (integer_of text)

-- an INTEGER other than 0 of at most a size, which counts from the front or, where it is negative, from the end
abbrev pub if_place : ℕ → ℤ → Option ℤ
if_place most n = if nat_le 1 (nat_abs n) && nat_le (nat_abs n) most then Some n else None

abbrev pub place_number : ℕ → List ℕ → Option ℤ
place_number most text = option_and_then (if_place most) (integer_of text)

-- a leap second is the second before it
abbrev pub second_number : List ℕ → Option ℕ
second_number text = option_map (λ n. min n 59) (number_of 0 60 text)

-- an ordinal, or nothing, which is 0
abbrev pub ordinal_of : List ℕ → Option ℤ
ordinal_of text = if length text == 0 then Some (pos 0) else place_number 53 text

abbrev pub day_part : Option ℤ → Option ℕ → Option DayPart
day_part (Some ordinal) (Some weekday) = Some (record { ordinal = ordinal; weekday = weekday })
day_part (Some ordinal) None = None
day_part None weekday = None

-- a day of BYDAY: its last two octets are the weekday, and what stands before them is the ordinal
abbrev pub day_of : List ℕ → Option DayPart
day_of text = day_part (ordinal_of (take (length text - 2) text)) (weekday_named (drop (length text - 2) text))

abbrev pub until_time : Local × Bool → Until
until_time (local, true) = UntilUtc (utc_of_local local)
until_time (local, false) = UntilLocal local

-- a DATE or a DATE-TIME
abbrev pub until_of : List ℕ → Option Until
until_of text = or_else (option_map UntilDay (date_of text)) (option_map until_time (date_time_of text))

-- values joined by commas; a value may stand twice
abbrev pub list_of : {X : Type 0} → (List ℕ → Option X) → List ℕ → Option (List X)
list_of item text = every (map item (pieces comma text))

-- The parts of a text

-- a name in upper case, and what stands behind its `=`
abbrev pub Part : Type 0
Part = List ℕ × List ℕ

abbrev pub if_named : List ℕ × List ℕ → Option Part
if_named parts = if is_name parts.0 then Some (raised_all parts.0, parts.1) else None

abbrev pub part_of : List ℕ → Option Part
part_of text = option_and_then if_named (cut equals_sign text)

-- pieces without an empty one at the end
abbrev pub without_last_empty : List (List ℕ) → List (List ℕ)
without_last_empty [] = []
without_last_empty (last ∷ []) = if length last == 0 then [] else last ∷ []
without_last_empty (piece ∷ next ∷ more) = piece ∷ without_last_empty (next ∷ more)

abbrev pub rule_parts : List ℕ → Option (List Part)
rule_parts text = every (map part_of (without_last_empty (pieces semicolon text)))

abbrev pub is_part_named : List ℕ → Part → Bool
is_part_named name part = bytes_eq part.0 name

-- no name stands twice
abbrev pub is_each_once : List Part → Bool
is_each_once [] = true
is_each_once (part ∷ parts) = not (list_any (is_part_named part.0) parts) && is_each_once parts

-- The parts that have a meaning, and how the value of each goes into a rule; one outside its grammar or its bounds does not. FREQ
-- stands in the rule before the others.
abbrev pub meanings : List (List ℕ × (List ℕ → Rule → Option Rule))
meanings =
    (codes "FREQ", λ text rule. option_map (λ freq. rule) (freq_of text))
    ∷ (codes "INTERVAL", λ text rule. option_map (λ n. record rule { interval = n }) (number_of 1 999999999 text))
    ∷ (codes "COUNT", λ text rule. option_map (λ n. record rule { count = Some n }) (number_of 1 999999999 text))
    ∷ (codes "UNTIL", λ text rule. option_map (λ until. record rule { until = Some until }) (until_of text))
    ∷ (codes "WKST", λ text rule. option_map (λ weekday. record rule { week_start = weekday }) (weekday_named text))
    ∷ (codes "BYMONTH", λ text rule. option_map (λ ns. record rule { by_month = ns }) (list_of (number_of 1 12) text))
    ∷ (codes "BYWEEKNO", λ text rule. option_map (λ ns. record rule { by_week = ns }) (list_of (place_number 53) text))
    ∷ (codes "BYYEARDAY", λ text rule. option_map (λ ns. record rule { by_year_day = ns }) (list_of (place_number 366) text))
    ∷ (codes "BYMONTHDAY", λ text rule. option_map (λ ns. record rule { by_month_day = ns }) (list_of (place_number 31) text))
    ∷ (codes "BYDAY", λ text rule. option_map (λ days. record rule { by_day = days }) (list_of day_of text))
    ∷ (codes "BYHOUR", λ text rule. option_map (λ ns. record rule { by_hour = ns }) (list_of (number_of 0 23) text))
    ∷ (codes "BYMINUTE", λ text rule. option_map (λ ns. record rule { by_minute = ns }) (list_of (number_of 0 59) text))
    ∷ (codes "BYSECOND", λ text rule. option_map (λ ns. record rule { by_second = ns }) (list_of second_number text))
    ∷ (codes "BYSETPOS", λ text rule. option_map (λ ns. record rule { by_set_pos = ns }) (list_of (place_number 366) text))
    ∷ []

-- a part put into a rule; a part with a name of its own, `X-` before it, says nothing
abbrev pub with_part : Part → Rule → Option Rule
with_part part rule = elim (find (λ (row : List ℕ × (List ℕ → Rule → Option Rule)). is_part_named row.0 part) meanings) [
  | None ↦ if starts_with nat_eq part.0 (codes "X-") then Some rule else None
  | Some row ↦ row.1 part.1 rule
]

abbrev pub with_parts : List Part → Rule → Option Rule
with_parts [] rule = Some rule
with_parts (part ∷ parts) rule = option_and_then (with_parts parts) (with_part part rule)

-- the rule of FREQ alone: each time, without end, and weeks begin on Monday
abbrev pub every_time : Freq → Rule
every_time freq = record {
  freq = freq;
  interval = 1;
  count = None;
  until = None;
  week_start = 0;
  by_month = [];
  by_week = [];
  by_year_day = [];
  by_month_day = [];
  by_day = [];
  by_hour = [];
  by_minute = [];
  by_second = [];
  by_set_pos = [];
}

-- the frequency that the part FREQ says
abbrev pub freq_in : List Part → Option Freq
freq_in parts = option_and_then (λ (part : Part). freq_of part.1) (find (is_part_named (codes "FREQ")) parts)

-- What cannot stand together

-- whether a part with a list is there
abbrev pub has_some : {X : Type 0} → List X → Bool
has_some values = nat_lt 0 (length values)

-- the parts that a frequency does not have (the table of RFC 5545, 3.3.10)
abbrev pub refuses : Freq → Rule → Bool
refuses Yearly rule = false
refuses Monthly rule = has_some rule.by_week || has_some rule.by_year_day
refuses Weekly rule = has_some rule.by_week || has_some rule.by_year_day || has_some rule.by_month_day
refuses Daily rule = has_some rule.by_week || has_some rule.by_year_day
refuses Hourly rule = has_some rule.by_week
refuses Minutely rule = has_some rule.by_week
refuses Secondly rule = has_some rule.by_week

-- the frequencies whose weekdays may have an ordinal
abbrev pub has_ordinals : Freq → Bool
has_ordinals Monthly = true
has_ordinals Yearly = true
has_ordinals Weekly = false
has_ordinals Daily = false
has_ordinals Hourly = false
has_ordinals Minutely = false
has_ordinals Secondly = false

abbrev pub is_ordinal : DayPart → Bool
is_ordinal day = nat_lt 0 (nat_abs day.ordinal)

-- COUNT or UNTIL, no part that the frequency refuses, and an ordinal only by month or by year, and not beside BYWEEKNO
abbrev pub is_allowed : Rule → Bool
is_allowed rule =
    not (is_some rule.count && is_some rule.until)
    && not (refuses rule.freq rule)
    && (not (list_any is_ordinal rule.by_day) || (has_ordinals rule.freq && not (has_some rule.by_week)))

abbrev pub if_allowed : Rule → Option Rule
if_allowed rule = if is_allowed rule then Some rule else None

-- The rule of a text

abbrev pub rule_of_freq : List Part → Freq → Option Rule
rule_of_freq parts freq = option_and_then if_allowed (with_parts parts (every_time freq))

abbrev pub rule_of_parts : List Part → Option Rule
rule_of_parts parts = if is_each_once parts then option_and_then (rule_of_freq parts) (freq_in parts) else None

-- the rule that a text is in the grammar of rules, the bound on BYSETPOS left aside
unfoldable pub rule_in_grammar : List ℕ → Option Rule
rule_in_grammar text = option_and_then rule_of_parts (rule_parts text)

-- how many numbers there are in a list, each counted once
abbrev pub distinct : List ℕ → ℕ
distinct [] = 0
distinct (n ∷ ns) = if list_any (λ other. other == n) ns then distinct ns else distinct ns + 1

-- how many times of day the three parts name; one that is not there counts as one time
abbrev pub times_of_day : Rule → ℕ
times_of_day rule = max 1 (distinct rule.by_hour) * max 1 (distinct rule.by_minute) * max 1 (distinct rule.by_second)

-- BYSETPOS picks from at most 24 times of day
abbrev pub is_within_bound : Rule → Bool
is_within_bound rule = not (has_some rule.by_set_pos) || nat_le (times_of_day rule) 24

abbrev pub if_within_bound : Rule → Option Rule
if_within_bound rule = if is_within_bound rule then Some rule else None

-- the rule that a text is
abbrev pub rule_of : List ℕ → Option Rule
rule_of text = option_and_then if_within_bound (rule_in_grammar text)
