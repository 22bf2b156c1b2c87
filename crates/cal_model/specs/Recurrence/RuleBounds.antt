-- What a rule that was read keeps: the bounds of its values (RFC 5545, 3.3.10), and of the moments that are written beside it.
-- Bounds alone: nothing here says which moments a rule gives.
use Rattle.std.specs.Prelude.{◌≡◌, ◌⊎◌, ℕ, ◌<◌, All, ℤ, pos, negsuc, neg_ℤ, ◌≤ℤ◌, IfSome, Option, Some, None}
use Rattle.std.specs.Int.{IsInRange}
use Rattle.cal_moment.specs.Calendar.{IsCalendarDay, IsCalendarMoment}
use Rattle.cal_moment.specs.declared.stamp.Local.{Local}
use Rattle.cal_model.specs.declared.rule.Rule.{Rule}
use Rattle.cal_model.specs.declared.rule.DayPart.{DayPart}
use Rattle.cal_model.specs.declared.rule.Until.{Until}
use Rattle.cal_model.specs.declared.rule.Until.TheVariants.{Day as UntilDay, Local as UntilLocal, Utc as UntilUtc}

-- a local moment of the years 1 to 9999
pub record IsWritten (l : Local) : Type 0 where
  pub from_first : neg_ℤ (pos 719_162) ≤ℤ l.day
  pub to_last : l.day ≤ℤ pos 2_932_896
  pub second_below : l.second < 86_400

-- an UNTIL of these years, if there is one
abbrev pub IsWrittenUntil : Option Until → Type 0
IsWrittenUntil None = Unit {0}
IsWrittenUntil (Some (UntilDay d)) = IsCalendarDay d.0
IsWrittenUntil (Some (UntilLocal l)) = IsWritten l
IsWrittenUntil (Some (UntilUtc u)) = IsCalendarMoment u.0

-- a number that counts from the front or, where it is negative, from the end: 1 to the greatest, or -1 to that one's negative
abbrev pub IsPlace : ℕ → ℤ → Type 0
IsPlace greatest (pos n) = IsInRange 1 greatest n
IsPlace greatest (negsuc n) = n < greatest

-- a weekday, perhaps with an ordinal; 0 is none
pub record IsDayPart (part : DayPart) : Type 0 where
  pub ordinal : (part.ordinal ≡ pos 0) ⊎ IsPlace 53 part.ordinal
  pub weekday : part.weekday < 7

-- a rule with all of these bounds
pub record IsUsable (rule : Rule) : Type 0 where
  pub interval_positive : 0 < rule.interval
  pub count_positive : IfSome rule.count (λ count. 0 < count)
  pub until : IsWrittenUntil rule.until
  pub week_start_below : rule.week_start < 7
  pub months : All (IsInRange 1 12) rule.by_month
  pub weeks : All (IsPlace 53) rule.by_week
  pub year_days : All (IsPlace 366) rule.by_year_day
  pub month_days : All (IsPlace 31) rule.by_month_day
  pub days : All IsDayPart rule.by_day
  pub hours : All (λ n. n < 24) rule.by_hour
  pub minutes : All (λ n. n < 60) rule.by_minute
  pub seconds : All (λ n. n < 60) rule.by_second
  pub places : All (IsPlace 366) rule.by_set_pos
