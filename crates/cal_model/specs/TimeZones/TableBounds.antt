-- What a part of a zone and its table keep, and how far from 1970 the conversions reach (RFC 5545, 3.3.14 and 3.6.5).
-- Bounds alone: nothing is converted here.
use Rattle.std.specs.Prelude.{◌≡◌, ℕ, false, ◌<◌, All, List, get_or, length, ℤ, pos, neg_ℤ, ◌<ℤ◌}
use Rattle.cal_moment.specs.Calendar.{IsBetween}
use Rattle.cal_model.specs.declared.rule.Rule.{Rule}
use Rattle.cal_model.specs.declared.zone.Onset.{Onset}
use Rattle.cal_model.specs.declared.zone.ZonePart.{ZonePart}
use Rattle.cal_model.specs.declared.zone.ZoneTable.{ZoneTable}
use Rattle.cal_model.specs.Recurrence.NextPassing.{is_fine}
use Rattle.cal_model.specs.Recurrence.RuleBounds.{IsWritten, IsUsable}

-- the onsets stand in rising order, at distinct moments
pub record IsRising (onsets : List Onset) : Type 0 where
  pub each : (i j : ℕ) (d : Onset) → i < j → j < length onsets → (get_or onsets i d).at.0 <ℤ (get_or onsets j d).at.0

-- an offset is less than a day
abbrev pub IsOffset : ℤ → Type 0
IsOffset = IsBetween (neg_ℤ (pos 86_399)) (pos 86_399)

-- a table that parts with such offsets make
pub record IsTable (table : ZoneTable) : Type 0 where
  pub rising : IsRising table.onsets
  pub before : IsOffset table.before
  pub offsets : All (λ (o : Onset). IsOffset o.offset) table.onsets

-- a part that was read: its offsets, its start and its dates, and the rules that it may have
pub record IsPart (part : ZonePart) : Type 0 where
  pub start : IsWritten part.start
  pub from : IsOffset part.from
  pub to : IsOffset part.to
  pub dates : All IsWritten part.dates
  pub rules : All IsUsable part.rules
  pub coarse : All (λ (rule : Rule). is_fine rule.freq ≡ false) part.rules

-- no farther from 1970 than the digits of a day that fits 32 bits
abbrev pub IsDigits : ℤ → Type 0
IsDigits = IsBetween (neg_ℤ (pos 200_000_000_000_000)) (pos 200_000_000_000_000)
