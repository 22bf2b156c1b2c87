-- Objects that happen once: one component with a start, and nothing that gives it another or takes this one away. From RFC 5545, 3.8.5.
use Rattle.std.specs.Prelude.{◌≡◌, Bool, ◌&&◌, false, true, Some, List, [], ◌∷◌, is_none, is_some, ℤ}
use Rattle.cal_moment.specs.declared.stamp.Stamp.{Stamp}
use Rattle.cal_model.specs.declared.object.Component.{Component}
use Rattle.cal_model.specs.declared.object.Extent.{Extent}
use Rattle.cal_model.specs.declared.object.Object.{Object}
use Rattle.cal_model.specs.declared.row.Row.{Row}
use Rattle.cal_model.specs.declared.zone.ZoneTable.{ZoneTable}
use Rattle.cal_model.specs.Instances.Alignment.{kind_of, reading_of, value_of}
use Rattle.cal_model.specs.Instances.Rows.{row_of, window_at}
use Rattle.cal_model.specs.Instances.Starts.{end_of_extent, own_start}
use Rattle.cal_model.specs.Words.Lists.{is_empty}

-- a component without RECURRENCE-ID, rule, RDATE and EXDATE
abbrev pub is_plain : Component → Bool
is_plain c = is_none c.recurrence_id && is_empty c.rules && is_empty c.dates && is_empty c.periods && is_empty c.except

-- one such component alone, with a start
abbrev pub has_one_start : List Component → Bool
has_one_start (c ∷ []) = is_plain c && is_some (own_start c)
has_one_start other = false

abbrev pub happens_once : Object → Bool
happens_once object = has_one_start object.components

-- the row of the first component from its own start
abbrev pub row_from_start : List ZoneTable → Stamp → Extent → Row
row_from_start zones s extent = row_of (value_of zones s) (value_of zones s) (end_of_extent zones s extent (value_of zones s)) 0 (kind_of s) (kind_of s)

-- the window in which a stamp lies, by its own clock
abbrev pub window_of_start : List ZoneTable → Stamp → ℤ
window_of_start zones s = window_at ((reading_of zones s).local (value_of zones s))

-- a row is that of the one component of an object, from its own start
pub record IsOnlyRow (object : Object) (row : Row) : Type 0 where
  pub component : Component
  pub stamp : Stamp
  pub alone : object.components ≡ component ∷ []
  pub plain : is_plain component ≡ true
  pub start : own_start component ≡ Some stamp
  pub is : row ≡ row_from_start object.zones stamp component.extent
