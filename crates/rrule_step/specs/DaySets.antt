-- What the parts of a rule that name days say, as sets.
use Rattle.std.specs.Prelude.{◌≡◌, ℕ, ◌+◌, ◌<◌, Bool, false, List, ℤ, slice_index_or}
use Rattle.cal_model.specs.declared.rule.Rule.{Rule}
use Rattle.cal_model.specs.Words.Integers.{some_names_place}
use Rattle.rrule_step.specs.declared.day_sets.DaySets.{DaySets}
use Rattle.rrule_step.specs.declared.day_sets.MonthDays.{MonthDays}
use Rattle.rrule_step.specs.declared.day_sets.Weeks.{Weeks}
use Rattle.rrule_step.specs.declared.day_sets.YearDays.{YearDays}
use Rattle.rrule_step.specs.declared.set.Set.{Set}
use Rattle.rrule_step.specs.Ordinals.{AreOrdinals}
use Rattle.rrule_step.specs.Sets.{has}

-- a set has the places that numbers name among so many, counted from 0
abbrev pub HasNamed : List ℤ → ℕ → Set → Type 0
HasNamed numbers size set = (i : ℕ) → i < size → has set i ≡ some_names_place numbers (i + 1) size

-- a table marks them
abbrev pub MarksNamed : List ℤ → ℕ → List Bool → Type 0
MarksNamed numbers size table = (i : ℕ) → i < size → slice_index_or table i false ≡ some_names_place numbers (i + 1) size

-- BYMONTHDAY by the length of a month
pub record AreMonthDays (numbers : List ℤ) (days : MonthDays) : Type 0 where
  pub of_28 : HasNamed numbers 28 days.of_28
  pub of_29 : HasNamed numbers 29 days.of_29
  pub of_30 : HasNamed numbers 30 days.of_30
  pub of_31 : HasNamed numbers 31 days.of_31

-- BYYEARDAY by the length of a year
pub record AreYearDays (numbers : List ℤ) (days : YearDays) : Type 0 where
  pub of_365 : MarksNamed numbers 365 days.of_365
  pub of_366 : MarksNamed numbers 366 days.of_366

-- BYWEEKNO by how many weeks a year has
pub record AreWeeks (numbers : List ℤ) (weeks : Weeks) : Type 0 where
  pub of_52 : HasNamed numbers 52 weeks.of_52
  pub of_53 : HasNamed numbers 53 weeks.of_53

pub record AreDaySets (rule : Rule) (sets : DaySets) : Type 0 where
  pub month_days : AreMonthDays rule.by_month_day sets.month_days
  pub year_days : AreYearDays rule.by_year_day sets.year_days
  pub weeks : AreWeeks rule.by_week sets.weeks
  pub ordinals : AreOrdinals rule.by_day sets.ordinals
