-- What the stamps, RDATE periods and rules of a component have to keep so that a program can find its instances.
use Rattle.std.specs.Prelude.{◌≡◌, ℕ, false, All, option_to_list}
use Rattle.cal_moment.specs.declared.stamp.Period.{Period}
use Rattle.cal_moment.specs.declared.stamp.PeriodEnd.{PeriodEnd}
use Rattle.cal_moment.specs.declared.stamp.PeriodEnd.TheVariants.{At, After}
use Rattle.cal_model.specs.declared.object.Component.{Component}
use Rattle.cal_model.specs.declared.rule.Rule.{Rule}
use Rattle.cal_model.specs.Objects.ObjectFacts.{IsServed}
use Rattle.cal_model.specs.Recurrence.NextPassing.{is_fine}
use Rattle.cal_model.specs.Recurrence.RuleBounds.{IsUsable}
use Rattle.override_merge.specs.Conversions.{HasConvertibleRow, IsConvertible, IsShortLength}

-- the ends of an RDATE period
abbrev pub IsConvertibleEnd : ℕ → PeriodEnd → Type 0
IsConvertibleEnd zones (At end) = IsConvertible zones end
IsConvertibleEnd zones (After length) = IsShortLength length

pub record IsConvertiblePeriod (zones : ℕ) (period : Period) : Type 0 where
  pub start : IsConvertible zones period.start
  pub end : IsConvertibleEnd zones period.end

-- what a component has that was read, as far as its instances go
pub record IsExpandable (zones : ℕ) (component : Component) : Type 0 where
  pub row : HasConvertibleRow zones component
  pub served : All IsServed (option_to_list component.start)
  pub dates : All (IsConvertible zones) component.dates
  pub periods : All (IsConvertiblePeriod zones) component.periods
  pub except : All (IsConvertible zones) component.except
  pub usable : All IsUsable component.rules
  pub coarse : All (λ (rule : Rule). is_fine rule.freq ≡ false) component.rules
