-- The values of dates, times and offsets that are computed are those that their texts spell.
use Rattle.std.proofs.Common.{◌≡◌, ℕ, ◌+◌, ◌*◌, ◌<◌, ◌≤◌, Bool, true, false, ◌&&◌, ◌==◌, if◌then◌else◌, nat_le, List, [], ◌++◌, length, take, drop, codes, bytes_eq, Option, Some, None, ℤ, refl, sym, ap, ap₂, ◌∙◌, arith, inl, inr}
use Rattle.std.specs.Prelude.{min}
use Rattle.std.proofs.lemmas.Bool.{le-leb, leb-true, and_parts, cases_Bool}
use Rattle.std.proofs.lemmas.List.{take-append-drop}
use Rattle.std.proofs.lemmas.Option.{cond_some, none-some, same_Some}
use Rattle.cal_moment.specs.declared.stamp.Day.{Day}
use Rattle.cal_moment.specs.declared.stamp.Local.{Local}
use Rattle.cal_moment.specs.Calendar.{IsDate, month_length, day_of_date, day_since_1970}
use Rattle.cal_moment.specs.Texts.{digits, date_text, time_text, utc_text, sign_text, signed, SpellsDate, SpellsTime, SpellsDateTime, SpellsSecond, SpellsOffset}
use Rattle.cal_moment.proofs.CalendarLaws.{month_length-bounds}
use Rattle.cal_model.specs.Values.ValueTexts.{number_at, is_calendar_date, is_clock_time, date_of, time_of, local_time, date_time_of, is_negative, second_text, offset_of}
use Rattle.cal_model.proofs.Values.CutLemmas.{if_some, same_text, is_same_text}

abbrev as_day : ℤ → Day
as_day n = record { 0 = n }

-- DATE

module _ (y m d : ℕ) (y4 : y < 10000) (m2 : m < 100) (d2 : d < 100) where
  year_at : number_at 0 4 (date_text y m d) ≡ y
  year_at = omega arith

  month_at : number_at 4 2 (date_text y m d) ≡ m
  month_at = omega arith

  day_at : number_at 6 2 (date_text y m d) ≡ d
  day_at = omega arith

abbrev date_by : List ℕ → ℕ → ℕ → ℕ → Option Day
date_by text y m d = if is_calendar_date y m d && bytes_eq text (date_text y m d) then Some (as_day (day_since_1970 (day_of_date y m d))) else None

in_calendar : (y m d : ℕ) → IsDate y m d → is_calendar_date y m d ≡ true
in_calendar y m d date = λ i.
    le-leb 1 y date.0.0 i && le-leb y 9999 date.0.1 i && le-leb 1 m date.1.0 i && le-leb m 12 date.1.1 i && le-leb 1 d date.2.0 i && le-leb d (month_length y m) date.2.1 i

from_calendar : (y m d : ℕ) → is_calendar_date y m d ≡ true → IsDate y m d
from_calendar y m d e =
    let last_day = and_parts _ (nat_le d (month_length y m)) e in
    let first_day = and_parts _ (nat_le 1 d) last_day.0 in
    let last_month = and_parts _ (nat_le m 12) first_day.0 in
    let first_month = and_parts _ (nat_le 1 m) last_month.0 in
    let year = and_parts (nat_le 1 y) (nat_le y 9999) first_month.0 in
    ((leb-true 1 y year.0, leb-true y 9999 year.1), (leb-true 1 m first_month.1, leb-true m 12 last_month.1), (leb-true 1 d first_day.1, leb-true d _ last_day.1))

pub date_of-date_text : (y m d : ℕ) → IsDate y m d → date_of (date_text y m d) ≡ Some (as_day (day_since_1970 (day_of_date y m d)))
unfolding date_of
date_of-date_text y m d date =
    let text = date_text y m d in
    let short = (month_length-bounds y m).1 in
    let y4 : y < 10000 = omega (arith, date.0.1) in
    let m2 : m < 100 = omega (arith, date.1.1) in
    let d2 : d < 100 = omega (arith, date.2.1, short) in
    let by_numbers : date_of text ≡ date_by text y m d = λ i. date_by text (year_at y m d y4 m2 d2 i) (month_at y m d y4 m2 d2 i) (day_at y m d y4 m2 d2 i) in
    by_numbers ∙ ap (λ b. if b then Some (as_day (day_since_1970 (day_of_date y m d))) else None) (λ i. in_calendar y m d date i && same_text text i)

-- A text that spells a date has its day.
pub date_of-SpellsDate : (text : List ℕ) (day : Day) → SpellsDate text day → date_of text ≡ Some day
date_of-SpellsDate text day s =
    ap date_of s.spelled ∙ (date_of-date_text s.year s.month s.day s.date ∙ ap (λ n. Some (as_day n)) (sym s.number))

date_by-some : (text : List ℕ) (day : Day) (y m d : ℕ) → date_by text y m d ≡ Some day → SpellsDate text day
date_by-some text day y m d e =
    let found = cond_some (is_calendar_date y m d && bytes_eq text (date_text y m d)) (as_day (day_since_1970 (day_of_date y m d))) day e in
    let both = and_parts (is_calendar_date y m d) (bytes_eq text (date_text y m d)) found.0 in
    record { year = y; month = m; day = d; date = from_calendar y m d both.0; spelled = is_same_text text (date_text y m d) both.1; number = sym (ap (λ (a : Day). a.0) found.1) }

-- A text that has a day spells its date.
pub SpellsDate-date_of : (text : List ℕ) (day : Day) → date_of text ≡ Some day → SpellsDate text day
unfolding date_of
SpellsDate-date_of text day e = date_by-some text day (number_at 0 4 text) (number_at 4 2 text) (number_at 6 2 text) e

-- Times of day

module _ (h n s : ℕ) (h2 : h < 100) (n2 : n < 100) (s2 : s < 100) where
  hour_at : number_at 0 2 (time_text h n s) ≡ h
  hour_at = omega arith

  minute_at : number_at 2 2 (time_text h n s) ≡ n
  minute_at = omega arith

  second_at : number_at 4 2 (time_text h n s) ≡ s
  second_at = omega arith

abbrev time_by : List ℕ → ℕ → ℕ → ℕ → Option ℕ
time_by text h n s = if is_clock_time h n s && bytes_eq text (time_text h n s) then Some (3600 * h + 60 * n + min s 59) else None

pub time_of-time_text : (h n s : ℕ) → h ≤ 23 → n ≤ 59 → s ≤ 60 → time_of (time_text h n s) ≡ Some (3600 * h + 60 * n + min s 59)
unfolding time_of
time_of-time_text h n s hour minute second =
    let text = time_text h n s in
    let h2 : h < 100 = omega (arith, hour) in
    let n2 : n < 100 = omega (arith, minute) in
    let s2 : s < 100 = omega (arith, second) in
    let by_numbers : time_of text ≡ time_by text h n s = λ i. time_by text (hour_at h n s h2 n2 s2 i) (minute_at h n s h2 n2 s2 i) (second_at h n s h2 n2 s2 i) in
    by_numbers
    ∙ ap (λ b. if b then Some (3600 * h + 60 * n + min s 59) else None) (λ i. le-leb h 23 hour i && le-leb n 59 minute i && le-leb s 60 second i && same_text text i)

pub time_of-SpellsTime : (text : List ℕ) (value : ℕ) → SpellsTime text value → time_of text ≡ Some value
time_of-SpellsTime text value s =
    ap time_of s.spelled ∙ (time_of-time_text s.hour s.minute s.second s.hour_in s.minute_in s.second_in ∙ ap (λ n. Some n) (sym s.number))

time_by-some : (text : List ℕ) (value h n s : ℕ) → time_by text h n s ≡ Some value → SpellsTime text value
time_by-some text value h n s e =
    let found = cond_some (is_clock_time h n s && bytes_eq text (time_text h n s)) (3600 * h + 60 * n + min s 59) value e in
    let both = and_parts (is_clock_time h n s) (bytes_eq text (time_text h n s)) found.0 in
    let second = and_parts (nat_le h 23 && nat_le n 59) (nat_le s 60) both.0 in
    let minute = and_parts (nat_le h 23) (nat_le n 59) second.0 in
    record { hour = h; minute = n; second = s; hour_in = leb-true h 23 minute.0; minute_in = leb-true n 59 minute.1; second_in = leb-true s 60 second.1; spelled = is_same_text text (time_text h n s) both.1; number = sym found.1 }

pub SpellsTime-time_of : (text : List ℕ) (value : ℕ) → time_of text ≡ Some value → SpellsTime text value
unfolding time_of
SpellsTime-time_of text value e = time_by-some text value (number_at 0 2 text) (number_at 2 2 text) (number_at 4 2 text) e

-- DATE-TIME

abbrev whole_text : ℕ → ℕ → ℕ → ℕ → ℕ → ℕ → Bool → List ℕ
whole_text y m d h n s utc = date_text y m d ++ (codes "T" ++ (time_text h n s ++ utc_text utc))

date_time_of-whole : (y m d h n s : ℕ) (utc : Bool) → date_time_of (whole_text y m d h n s utc) ≡ local_time utc (date_of (date_text y m d)) (time_of (time_text h n s))
unfolding date_time_of
date_time_of-whole y m d h n s true =
    ap (λ b. if b then local_time true (date_of (date_text y m d)) (time_of (time_text h n s)) else None) (same_text (codes "T" ++ (time_text h n s ++ codes "Z")))
date_time_of-whole y m d h n s false =
    ap (λ b. if b then local_time false (date_of (date_text y m d)) (time_of (time_text h n s)) else None) (same_text (codes "T" ++ (time_text h n s ++ [])))

-- A text that spells a DATE-TIME has its local time.
pub date_time_of-SpellsDateTime : (text : List ℕ) (value : Local × Bool) → SpellsDateTime text value → date_time_of text ≡ Some value
date_time_of-SpellsDateTime text value s =
    let d = s.spells_date in
    let t = s.spells_time in
    let whole : text ≡ whole_text d.year d.month d.day t.hour t.minute t.second value.1 =
    s.spelled ∙ ap₂ (λ date time. date ++ (codes "T" ++ (time ++ utc_text value.1))) d.spelled t.spelled in
    let date = sym (ap date_of d.spelled) ∙ date_of-SpellsDate s.date (as_day value.0.day) d in
    let time = sym (ap time_of t.spelled) ∙ time_of-SpellsTime s.time value.0.second t in
    ap date_time_of whole
    ∙ (date_time_of-whole d.year d.month d.day t.hour t.minute t.second value.1
    ∙ ap₂ (local_time value.1) date time)

-- what a local time is made of
record IsLocalTime (utc : Bool) (day : Option Day) (second : Option ℕ) (value : Local × Bool) : Type 0 where
  date : day ≡ Some (as_day value.0.day)
  time : second ≡ Some value.0.second
  flag : utc ≡ value.1

local_time-some : (utc : Bool) (day : Option Day) (second : Option ℕ) (value : Local × Bool) → local_time utc day second ≡ Some value → IsLocalTime utc day second value
local_time-some utc (Some day) (Some second) value e =
    let same = same_Some (record { day = day.0; second = second }, utc) value e in
    record { date = ap (λ (v : Local × Bool). Some (as_day v.0.day)) same; time = ap (λ (v : Local × Bool). Some v.0.second) same; flag = ap (λ (v : Local × Bool). v.1) same }
local_time-some utc (Some day) None value e = absurd (none-some value e)
local_time-some utc None second value e = absurd (none-some value e)

date_time_by-some : (text : List ℕ) (utc : Bool) (value : Local × Bool)
    → (if bytes_eq (drop 8 text) (codes "T" ++ (take 6 (drop 9 text) ++ utc_text utc)) then local_time utc (date_of (take 8 text)) (time_of (take 6 (drop 9 text))) else None) ≡ Some value
    → SpellsDateTime text value
date_time_by-some text utc value e =
    let behind = codes "T" ++ (take 6 (drop 9 text) ++ utc_text utc) in
    let found = if_some (bytes_eq (drop 8 text) behind) (local_time utc (date_of (take 8 text)) (time_of (take 6 (drop 9 text)))) value e in
    let parts = local_time-some utc (date_of (take 8 text)) (time_of (take 6 (drop 9 text))) value found.1 in
    record {
      date = take 8 text;
      time = take 6 (drop 9 text);
      spells_date = SpellsDate-date_of (take 8 text) (as_day value.0.day) parts.date;
      spells_time = SpellsTime-time_of (take 6 (drop 9 text)) value.0.second parts.time;
      spelled = sym (take-append-drop 8 text) ∙ (ap (λ t. take 8 text ++ t) (is_same_text (drop 8 text) behind found.0)
          ∙ ap (λ u. take 8 text ++ (codes "T" ++ (take 6 (drop 9 text) ++ utc_text u))) parts.flag);
    }

-- A text that has a local time spells its DATE-TIME.
pub SpellsDateTime-date_time_of : (text : List ℕ) (value : Local × Bool) → date_time_of text ≡ Some value → SpellsDateTime text value
unfolding date_time_of
SpellsDateTime-date_time_of text value e = date_time_by-some text (bytes_eq (drop 15 text) (codes "Z")) value e

-- UTC-OFFSET

abbrev offset_text : Bool → ℕ → ℕ → List ℕ → List ℕ
offset_text negative hour minute rest = sign_text negative ++ (digits 2 hour ++ (digits 2 minute ++ rest))

abbrev offset_by : List ℕ → Bool → ℕ → ℕ → ℕ → List ℕ → Option ℤ
offset_by text negative hour minute second rest =
    if nat_le hour 23 && nat_le minute 59 && nat_le second 59 && bytes_eq text (offset_text negative hour minute rest)
    then Some (signed negative (3600 * hour + 60 * minute + second))
    else None

module _ (hour minute second : ℕ) (h2 : hour < 100) (n2 : minute < 100) (s2 : second < 100) where
  offset_hour : (negative : Bool) (rest : List ℕ) → number_at 1 2 (offset_text negative hour minute rest) ≡ hour
  offset_hour true rest = omega arith
  offset_hour false rest = omega arith

  offset_minute : (negative : Bool) (rest : List ℕ) → number_at 3 2 (offset_text negative hour minute rest) ≡ minute
  offset_minute true rest = omega arith
  offset_minute false rest = omega arith

  offset_second : (negative : Bool) → number_at 5 2 (offset_text negative hour minute (digits 2 second)) ≡ second
  offset_second true = omega arith
  offset_second false = omega arith

offset_sign : (negative : Bool) (hour minute : ℕ) (rest : List ℕ) → is_negative (offset_text negative hour minute rest) ≡ negative
offset_sign true hour minute rest = refl
offset_sign false hour minute rest = refl

no_second : (negative : Bool) (hour minute : ℕ) → number_at 5 2 (offset_text negative hour minute []) ≡ 0
no_second true hour minute = refl
no_second false hour minute = refl

no_second_text : (negative : Bool) (hour minute : ℕ) → second_text (offset_text negative hour minute []) ≡ []
no_second_text true hour minute = refl
no_second_text false hour minute = refl

some_second_text : (negative : Bool) (hour minute second : ℕ) → second_text (offset_text negative hour minute (digits 2 second)) ≡ digits 2 (number_at 5 2 (offset_text negative hour minute (digits 2 second)))
some_second_text true hour minute second = refl
some_second_text false hour minute second = refl

-- the test of an offset's text
offset_by-text : (negative : Bool) (hour minute second : ℕ) (rest : List ℕ) → hour ≤ 23 → minute ≤ 59 → second ≤ 59
    → offset_by (offset_text negative hour minute rest) negative hour minute second rest ≡ Some (signed negative (3600 * hour + 60 * minute + second))
offset_by-text negative hour minute second rest h n s =
    ap (λ b. if b then Some (signed negative (3600 * hour + 60 * minute + second)) else None)
    (λ i. le-leb hour 23 h i && le-leb minute 59 n i && le-leb second 59 s i && same_text (offset_text negative hour minute rest) i)

without_second : (negative : Bool) (hour minute : ℕ) → hour ≤ 23 → minute ≤ 59 → offset_of (offset_text negative hour minute []) ≡ Some (signed negative (3600 * hour + 60 * minute + 0))
unfolding offset_of
without_second negative hour minute h n =
    let text = offset_text negative hour minute [] in
    let h2 : hour < 100 = omega (arith, h) in
    let n2 : minute < 100 = omega (arith, n) in
    let rest = no_second_text negative hour minute in
    let by_numbers : offset_of text ≡ offset_by text negative hour minute 0 [] = λ i.
    offset_by text (offset_sign negative hour minute [] i) (offset_hour hour minute 0 h2 n2 (omega arith) negative [] i) (offset_minute hour minute 0 h2 n2 (omega arith) negative [] i) (no_second negative hour minute i) (rest i) in
    by_numbers ∙ offset_by-text negative hour minute 0 [] h n (omega arith)

with_second : (negative : Bool) (hour minute second : ℕ) → hour ≤ 23 → minute ≤ 59 → second ≤ 59 → offset_of (offset_text negative hour minute (digits 2 second)) ≡ Some (signed negative (3600 * hour + 60 * minute + second))
unfolding offset_of
with_second negative hour minute second h n s =
    let text = offset_text negative hour minute (digits 2 second) in
    let h2 : hour < 100 = omega (arith, h) in
    let n2 : minute < 100 = omega (arith, n) in
    let s2 : second < 100 = omega (arith, s) in
    let at = offset_second hour minute second h2 n2 s2 negative in
    let rest = some_second_text negative hour minute second ∙ ap (digits 2) at in
    let by_numbers : offset_of text ≡ offset_by text negative hour minute second (digits 2 second) = λ i.
    offset_by text (offset_sign negative hour minute (digits 2 second) i) (offset_hour hour minute second h2 n2 s2 negative (digits 2 second) i) (offset_minute hour minute second h2 n2 s2 negative (digits 2 second) i) (at i) (rest i) in
    by_numbers ∙ offset_by-text negative hour minute second (digits 2 second) h n s

-- A text that spells an offset has it.
pub offset_of-SpellsOffset : (text : List ℕ) (value : ℤ) → SpellsOffset text value → offset_of text ≡ Some value
offset_of-SpellsOffset text value s =
    let whole = ap offset_of s.spelled in
    elim s.spells_second [
      | inl none ↦ (ap offset_of (s.spelled ∙ ap (offset_text s.negative s.hour s.minute) none.0)
          ∙ (without_second s.negative s.hour s.minute s.hour_in s.minute_in
          ∙ (ap (λ n. Some (signed s.negative (3600 * s.hour + 60 * s.minute + n))) (sym none.1) ∙ ap (λ n. Some n) (sym s.number))))
      | inr some ↦ (ap offset_of (s.spelled ∙ ap (offset_text s.negative s.hour s.minute) some.1)
          ∙ (with_second s.negative s.hour s.minute s.second s.hour_in s.minute_in some.0 ∙ ap (λ n. Some n) (sym s.number)))
    ]

-- the seconds of an offset that passes its test
spells_second : (text : List ℕ) (negative : Bool) (hour minute : ℕ) → text ≡ offset_text negative hour minute (second_text text) → number_at 5 2 text ≤ 59 → SpellsSecond (second_text text) (number_at 5 2 text)
spells_second text negative hour minute e bound =
    elim (cases_Bool (length text == 5)) [
      | inl short ↦ (let none : second_text text ≡ [] = ap (λ b. if b then [] else digits 2 (number_at 5 2 text)) short in
          inl (none, ap (number_at 5 2) (e ∙ ap (offset_text negative hour minute) none) ∙ no_second negative hour minute))
      | inr long ↦ inr (bound, ap (λ b. if b then [] else digits 2 (number_at 5 2 text)) long)
    ]

offset_by-some : (text : List ℕ) (negative : Bool) (hour minute : ℕ) (value : ℤ) → offset_by text negative hour minute (number_at 5 2 text) (second_text text) ≡ Some value → SpellsOffset text value
offset_by-some text negative hour minute value e =
    let second = number_at 5 2 text in
    let whole = offset_text negative hour minute (second_text text) in
    let found = cond_some (nat_le hour 23 && nat_le minute 59 && nat_le second 59 && bytes_eq text whole) (signed negative (3600 * hour + 60 * minute + second)) value e in
    let same = and_parts (nat_le hour 23 && nat_le minute 59 && nat_le second 59) (bytes_eq text whole) found.0 in
    let last = and_parts (nat_le hour 23 && nat_le minute 59) (nat_le second 59) same.0 in
    let first = and_parts (nat_le hour 23) (nat_le minute 59) last.0 in
    let spelled = is_same_text text whole same.1 in
    record {
      negative = negative;
      hour = hour;
      minute = minute;
      second = second;
      second_text = second_text text;
      hour_in = leb-true hour 23 first.0;
      minute_in = leb-true minute 59 first.1;
      spells_second = spells_second text negative hour minute spelled (leb-true second 59 last.1);
      spelled = spelled;
      number = sym found.1;
    }

-- A text that has an offset spells it.
pub SpellsOffset-offset_of : (text : List ℕ) (value : ℤ) → offset_of text ≡ Some value → SpellsOffset text value
unfolding offset_of
SpellsOffset-offset_of text value e = offset_by-some text (is_negative text) (number_at 1 2 text) (number_at 3 2 text) value e
