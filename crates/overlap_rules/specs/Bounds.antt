-- How far from 1970 the moments of a row may lie. Those of each object that was read lie much nearer: between the years 1599 and 2102.
use Rattle.std.specs.Prelude.{ℤ, pos, neg_ℤ}
use Rattle.cal_moment.specs.Calendar.{IsBetween}
use Rattle.cal_model.specs.declared.row.Row.{Row}

-- some three million years, in either direction
abbrev pub IsNear : ℤ → Type 0
IsNear = IsBetween (neg_ℤ (pos 100_000_000_000_000)) (pos 100_000_000_000_000)

-- both moments of a row
pub record IsNearRow (row : Row) : Type 0 where
  pub start : IsNear row.start
  pub end : IsNear row.end

-- a day that fits 32 bits
abbrev pub IsOfDays : ℤ → Type 0
IsOfDays = IsBetween (neg_ℤ (pos 180_000_000_000_000)) (pos 180_000_000_000_000)

pub record HasDays (row : Row) : Type 0 where
  pub start : IsOfDays row.start
  pub end : IsOfDays row.end

-- what sums of a moment and a length reach
abbrev pub IsOfSeconds : ℤ → Type 0
IsOfSeconds = IsBetween (neg_ℤ (pos 2_000_000_000_000_000_000_000_000)) (pos 2_000_000_000_000_000_000_000_000)

-- what such a sum reaches, less all gaps of an alarm that goes backwards
abbrev pub IsFar : ℤ → Type 0
IsFar = IsBetween (neg_ℤ (pos 100_000_000_000_000_000_000_000_000_000_000_000)) (pos 100_000_000_000_000_000_000_000_000_000_000_000)
