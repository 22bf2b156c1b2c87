-- Rules whose moments stand equally far apart, so that each is found from the one before by adding days. From RFC 5545, 3.3.10.
use Rattle.std.specs.Prelude.{◌≡◌, ℕ, ◌+◌, ◌-◌, ◌*◌, ◌<◌, Bool, true, Option, Some, None}
use Rattle.cal_moment.specs.Calendar.{second_of_day}
use Rattle.cal_model.specs.declared.rule.Rule.{Rule}
use Rattle.cal_model.specs.Recurrence.NextPassing.{NonePasses}
use Rattle.cal_model.specs.Recurrence.Passing.{passes}
use Rattle.cal_model.specs.Words.Lists.{is_empty}

-- a rule without BY parts
pub record IsBare (rule : Rule) : Type 0 where
  pub months : is_empty rule.by_month ≡ true
  pub weeks : is_empty rule.by_week ≡ true
  pub year_days : is_empty rule.by_year_day ≡ true
  pub month_days : is_empty rule.by_month_day ≡ true
  pub days : is_empty rule.by_day ≡ true
  pub hours : is_empty rule.by_hour ≡ true
  pub minutes : is_empty rule.by_minute ≡ true
  pub seconds : is_empty rule.by_second ≡ true
  pub places : is_empty rule.by_set_pos ≡ true

-- whatever its start, that is a moment of the rule, the next stands so many days behind each, and BYSETPOS picks none of them
pub record IsEven (rule : Rule) (days : ℕ) : Type 0 where
  pub some : 0 < days
  pub unpicked : is_empty rule.by_set_pos ≡ true
  pub own : (start : ℕ) (dated : Bool) → (dated ≡ true → second_of_day start ≡ 0) → passes rule start dated start ≡ true
  pub next : (start m : ℕ) (dated : Bool) → passes rule start dated m ≡ true → passes rule start dated (m + 86_400 * days) ≡ true
  pub none_between : (start m : ℕ) (dated : Bool) → passes rule start dated m ≡ true → NonePasses rule start dated (m + 1) (m + 86_400 * days)

-- so many fewer, where some are said
abbrev pub fewer : ℕ → Option ℕ → Option ℕ
fewer n None = None
fewer n (Some left) = Some (left - n)
