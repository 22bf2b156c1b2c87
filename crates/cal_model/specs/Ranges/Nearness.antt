-- How far times may lie from one another: what is asked of zones and of periods so that the rows of an object lie near their starts. From RFC 5545, 3.3.9 and 3.3.14.
-- Bounds alone: no row is made here.
use Rattle.std.specs.Prelude.{◌≡◌, ℕ, All, Bool, true, false, ℤ, pos, ◌+ℤ◌, ◌<ℤ◌, slice_get, Some}
use Rattle.cal_moment.specs.declared.stamp.Period.{Period}
use Rattle.cal_moment.specs.declared.stamp.PeriodEnd.{PeriodEnd}
use Rattle.cal_moment.specs.declared.stamp.PeriodEnd.TheVariants.{At, After}
use Rattle.cal_moment.specs.declared.stamp.Length.{Length}
use Rattle.cal_model.specs.declared.object.Alarm.{Alarm}
use Rattle.cal_model.specs.declared.object.Component.{Component}
use Rattle.cal_model.specs.declared.object.Object.{Object}
use Rattle.cal_model.specs.declared.object.Related.{Related}
use Rattle.cal_model.specs.declared.object.Trigger.TheVariants.{From}
use Rattle.cal_model.specs.declared.row.Range.{Range}
use Rattle.cal_model.specs.declared.row.Row.{Row}
use Rattle.cal_model.specs.declared.zone.Onset.{Onset}
use Rattle.cal_model.specs.declared.zone.ZoneTable.{ZoneTable}
use Rattle.cal_model.specs.Instances.Starts.{is_date}
use Rattle.cal_model.specs.Instances.Rows.{is_dated, window_of}
use Rattle.cal_model.specs.Ranges.Overlap.{row_overlaps, dated_fixed, alarm_overlaps}
use Rattle.cal_model.specs.Ranges.Cost.{margin, window_meets}

-- two numbers differ by less than this
abbrev pub IsNear : ℕ → ℤ → ℤ → Type 0
IsNear n x y = (x <ℤ (y +ℤ pos n)) × (y <ℤ (x +ℤ pos n))

-- each offset of a zone is below so many seconds in size
pub record HasOffsetsBelow (n : ℕ) (table : ZoneTable) : Type 0 where
  pub before : IsNear n table.before (pos 0)
  pub after : All (λ (o : Onset). IsNear n o.offset (pos 0)) table.onsets

-- below a day
abbrev pub HasShortOffsets : ZoneTable → Type 0
HasShortOffsets = HasOffsetsBelow 86400

abbrev pub end_is_date : PeriodEnd → Bool
end_is_date (At e) = is_date e
end_is_date (After length) = false

-- no moment of a period is a DATE
pub record IsTimed (period : Period) : Type 0 where
  pub start : is_date period.start ≡ false
  pub end : end_is_date period.end ≡ false

-- what an object that was read has
pub record HasNearRows (object : Object) : Type 0 where
  pub offsets : All HasShortOffsets object.zones
  pub periods : All (λ (c : Component). All IsTimed c.periods) object.components

-- What follows of a row: a range that it meets, or an alarm that counts from it, meets the row's window once it is widened by the object's margin.

abbrev pub MeetsNear : Object → ZoneTable → Range → Row → Type 0
MeetsNear object zone range row =
    (c : Component) → slice_get object.components row.component ≡ Some c → is_dated row ≡ true → row_overlaps c row range zone ≡ true → window_meets (margin object) range (window_of object row) ≡ true

abbrev pub GoesOffNear : Object → ZoneTable → Range → Row → Type 0
GoesOffNear object zone range row =
    (c : Component) (k : ℕ) (alarm : Alarm) (r : Related) (length : Length) →
    slice_get object.components row.component ≡ Some c → slice_get c.alarms k ≡ Some alarm → alarm.trigger ≡ From r length → alarm_overlaps alarm c (dated_fixed row zone) range ≡ true → window_meets (margin object) range (window_of object row) ≡ true
