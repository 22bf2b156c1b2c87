-- Zones at hand for many conversions, and what can be converted in them: the stamps and lengths of a calendar object that was read.
use Rattle.std.specs.Prelude.{ℕ, ◌<◌, ◌^◌, All, length, option_to_list, ℤ, pos, neg_ℤ}
use Rattle.cal_moment.specs.Calendar.{IsBetween}
use Rattle.cal_moment.specs.declared.stamp.Length.{Length}
use Rattle.cal_moment.specs.declared.stamp.Stamp.{Stamp}
use Rattle.cal_model.specs.declared.object.Component.{Component}
use Rattle.cal_model.specs.declared.object.Extent.{Extent}
use Rattle.cal_model.specs.declared.object.Extent.TheVariants as extent
use Rattle.cal_model.specs.declared.object.Object.{Object}
use Rattle.cal_model.specs.declared.row.Row.{Row}
use Rattle.cal_model.specs.Instances.Alignment.{written_value}
use Rattle.cal_model.specs.TimeZones.TableBounds.{IsTable}
pub use Rattle.cal_model.specs.Conversions.ZonesAtHand.{tables_of, HasZone}

-- a moment of a row: some 35,000 years from 1970 at most
abbrev pub IsRowTime : ℤ → Type 0
IsRowTime = IsBetween (neg_ℤ (pos 1_099_511_627_776)) (pos 1_099_511_627_776)

-- a stamp whose zone is there, and whose digits are those of a row
pub record IsConvertible (zones : ℕ) (stamp : Stamp) : Type 0 where
  pub zone : HasZone zones stamp
  pub near : IsRowTime (written_value stamp)

-- a length of at most 200,000 days, and as much in seconds
pub record IsShortLength (length : Length) : Type 0 where
  pub days : IsBetween (neg_ℤ (pos 200_000)) (pos 200_000) length.days
  pub seconds : IsBetween (neg_ℤ (pos 17_280_000_000)) (pos 17_280_000_000) length.seconds

abbrev pub IsConvertibleExtent : ℕ → Extent → Type 0
IsConvertibleExtent zones (extent.End end) = IsConvertible zones end
IsConvertibleExtent zones (extent.Due end) = IsConvertible zones end
IsConvertibleExtent zones (extent.Lasting length) = IsShortLength length
IsConvertibleExtent zones other = Unit {0}

-- the stamps and the length of a component's own row
pub record HasConvertibleRow (zones : ℕ) (component : Component) : Type 0 where
  pub start : All (IsConvertible zones) (option_to_list component.start)
  pub extent : IsConvertibleExtent zones component.extent
  pub id : All (IsConvertible zones) (option_to_list component.recurrence_id)

-- what an object that was read has
pub record HasConvertibleRows (object : Object) : Type 0 where
  pub zones : All IsTable object.zones
  pub components : All (HasConvertibleRow (length object.zones)) object.components
  pub numbers : length object.components < 2 ^ 32

-- the moments of a row that was made
pub record HasRowTimes (row : Row) : Type 0 where
  pub id : IsRowTime row.id
  pub start : IsRowTime row.start
