-- The dates and times of texts that were read lie in the years 1 to 9999.
use Rattle.std.proofs.Common.{◌≡◌, ℕ, ◌+◌, ◌*◌, ◌≤◌, Bool, true, false, List, ◌++◌, ap, arith, ℤ, pos, neg_ℤ, subst, ◌<◌, refl, min, ◌+ℤ◌, ◌*ℤ◌}
use Rattle.std.specs.Prelude.{Option, Some, None, nat_le, ◌&&◌, bytes_eq, ◌≤ℤ◌, if◌then◌else◌, unwrap_or, take, drop, codes}
use Rattle.std.proofs.lemmas.Bool.{leb-true}
use Rattle.std.proofs.lemmas.Int.{ints}
use Rattle.std.proofs.lemmas.Option.{none-some, cond_some}
use Rattle.cal_moment.specs.Calendar.{IsBetween, month_length, first_of_year, day_of_date, day_since_1970, IsCalendarMoment}
use Rattle.cal_moment.proofs.CalendarLaws.{first_of_year-le, day_of_date-within}
use Rattle.cal_moment.specs.declared.stamp.Day.{Day}
use Rattle.cal_moment.specs.declared.stamp.Local.{Local}
use Rattle.cal_moment.specs.Texts.{date_text, time_text, utc_text}
use Rattle.cal_model.specs.Recurrence.RuleBounds.{IsWritten}
use Rattle.cal_model.specs.Values.ValueTexts.{number_at, is_calendar_date, is_clock_time, date_of, time_of, date_time_of, local_time}
use Rattle.cal_model.proofs.Words.EachLemmas.{both_hold}

day_within : (y m d : ℕ) → is_calendar_date y m d ≡ true → (366 ≤ day_of_date y m d) × (day_of_date y m d ≤ 3_652_424)
day_within y m d is =
    let a = both_hold (nat_le 1 y && nat_le y 9999 && nat_le 1 m && nat_le m 12 && nat_le 1 d) (nat_le d (month_length y m)) is in
    let b = both_hold (nat_le 1 y && nat_le y 9999 && nat_le 1 m && nat_le m 12) (nat_le 1 d) a.0 in
    let c = both_hold (nat_le 1 y && nat_le y 9999 && nat_le 1 m) (nat_le m 12) b.0 in
    let e = both_hold (nat_le 1 y && nat_le y 9999) (nat_le 1 m) c.0 in
    let f = both_hold (nat_le 1 y) (nat_le y 9999) e.0 in
    let low : first_of_year 1 ≤ first_of_year y = first_of_year-le 1 y (leb-true 1 y f.0) in
    let high : first_of_year (y + 1) ≤ first_of_year 10000 = first_of_year-le (y + 1) 10000 (omega (arith, leb-true y 9999 f.1)) in
    let below : day_of_date y m d < first_of_year (y + 1) = day_of_date-within y m d (leb-true 1 m e.1, leb-true m 12 c.1) (leb-true 1 d b.1, leb-true d (month_length y m) a.1) in
    (omega (arith, low), omega (arith, high, below))

-- a DATE
pub date_read : (text : List ℕ) (day : Day) → date_of text ≡ Some day → IsBetween (neg_ℤ (pos 719_162)) (pos 2_932_896) day.0
unfolding date_of
date_read text day is =
    let y = number_at 0 4 text in
    let m = number_at 4 2 text in
    let d = number_at 6 2 text in
    let found = cond_some (is_calendar_date y m d && bytes_eq text (date_text y m d)) (record { 0 = day_since_1970 (day_of_date y m d) }) day is in
    let dated = day_within y m d (both_hold (is_calendar_date y m d) (bytes_eq text (date_text y m d)) found.0).0 in
    subst (λ (x : Day). IsBetween (neg_ℤ (pos 719_162)) (pos 2_932_896) x.0) found.1 (omega (arith, ints, dated.0), omega (arith, ints, dated.1))

-- a TIME
pub time_read : (text : List ℕ) (second : ℕ) → time_of text ≡ Some second → second < 86_400
unfolding time_of
time_read text second is =
    let h = number_at 0 2 text in
    let m = number_at 2 2 text in
    let s = number_at 4 2 text in
    let found = cond_some (is_clock_time h m s && bytes_eq text (time_text h m s)) (3600 * h + 60 * m + min s 59) second is in
    let a = both_hold (is_clock_time h m s) (bytes_eq text (time_text h m s)) found.0 in
    let b = both_hold (nat_le h 23 && nat_le m 59) (nat_le s 60) a.0 in
    let c = both_hold (nat_le h 23) (nat_le m 59) b.0 in
    subst (λ n. n < 86_400) found.1 (omega (arith, leb-true h 23 c.0, leb-true m 59 c.1))

local_case : (utc : Bool) (date : Option Day) (time : Option ℕ) (value : Local × Bool) → local_time utc date time ≡ Some value →
    ((day : Day) → date ≡ Some day → IsBetween (neg_ℤ (pos 719_162)) (pos 2_932_896) day.0) → ((second : ℕ) → time ≡ Some second → second < 86_400) → IsWritten value.0
local_case utc None time value is dates times = absurd (none-some value is)
local_case utc (Some day) None value is dates times = absurd (none-some value is)
local_case utc (Some day) (Some second) value is dates times =
    subst (λ (v : Local × Bool). IsWritten v.0) (ap (λ o. unwrap_or o value) is)
    (record { from_first = (dates day refl).0; to_last = (dates day refl).1; second_below = times second refl })

-- a DATE-TIME
pub date_time_read : (text : List ℕ) (value : Local × Bool) → date_time_of text ≡ Some value → IsWritten value.0
unfolding date_time_of
date_time_read text value is =
    let utc = bytes_eq (drop 15 text) (codes "Z") in
    local_if (bytes_eq (drop 8 text) (codes "T" ++ (take 6 (drop 9 text) ++ utc_text utc))) is
  where
    local_if : (b : Bool) → (if b then local_time (bytes_eq (drop 15 text) (codes "Z")) (date_of (take 8 text)) (time_of (take 6 (drop 9 text))) else None) ≡ Some value → IsWritten value.0
    local_if true found = local_case (bytes_eq (drop 15 text) (codes "Z")) (date_of (take 8 text)) (time_of (take 6 (drop 9 text))) value found (date_read (take 8 text)) (time_read (take 6 (drop 9 text)))
    local_if false found = absurd (none-some value found)

-- digits as a moment in UTC
pub moment_of_digits : (day : ℤ) (second : ℕ) → neg_ℤ (pos 719_162) ≤ℤ day → day ≤ℤ pos 2_932_896 → second < 86_400 → IsCalendarMoment (day *ℤ pos 86400 +ℤ pos second)
moment_of_digits day second low high below = (omega (arith, ints), omega (arith, ints))
