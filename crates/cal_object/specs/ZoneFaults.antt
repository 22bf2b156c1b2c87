-- The first VTIMEZONE that cannot stand, as a walk over the components of a VCALENDAR finds it: it keeps how much the zones may still count.
use Rattle.std.specs.Prelude.{◌≡◌, ℕ, ◌+◌, ◌-◌, Bool, true, false, ◌||◌, ◌&&◌, nat_lt, if◌then◌else◌, List, [], ◌∷◌, Option, Some, None}
use Rattle.cal_base.specs.declared.line.Node.{Node}
use Rattle.cal_model.specs.declared.zone.ZoneTable.{ZoneTable}
use Rattle.cal_model.specs.Recurrence.RecurrenceSet.{every_moment}
use Rattle.cal_model.specs.TimeZones.TableBounds.{IsTable}
use Rattle.cal_model.specs.TimeZones.ZoneOnsets.{table_count}
use Rattle.cal_model.specs.Objects.ZoneReading.{is_zone, parts_of_zone, has_zone_fault, zone_table}

-- how much a zone counts
abbrev pub zone_count : Node → ℕ
zone_count zone = table_count (parts_of_zone zone)

-- a zone cannot stand where so much may still be counted
abbrev pub is_bad : ℕ → Node → Bool
is_bad room zone = has_zone_fault zone || nat_lt room (zone_count zone)

-- what may still be counted behind a component
abbrev pub room_behind : ℕ → Node → ℕ
room_behind room node = if is_zone node then room - zone_count node else room

-- a component that is a zone and cannot stand
abbrev pub is_bad_zone : ℕ → Node → Bool
is_bad_zone room node = is_zone node && is_bad room node

-- the table of a component, if it is a zone
abbrev pub tables_from : Node → List ZoneTable
tables_from node = if is_zone node then zone_table every_moment node ∷ [] else []

-- the number of the first bad zone among components that begin at a number
abbrev pub first_bad : ℕ → ℕ → List Node → Option ℕ
first_bad number room [] = None
first_bad number room (node ∷ nodes) =
    if is_bad_zone room node then Some number else first_bad (number + 1) (room_behind room node) nodes

-- a table that was made within some room, and what is left of it
pub record IsTableOf (zone : Node) (room : ℕ) (table : ZoneTable) (left : ℕ) : Type 0 where
  pub good : is_bad room zone ≡ false
  pub value : table ≡ zone_table every_moment zone
  pub convertible : IsTable table
  pub rest : left + zone_count zone ≡ room

-- either such a table, or the zone cannot stand
abbrev pub IsMadeOf : Node → ℕ → Option (ZoneTable × ℕ) → Type 0
IsMadeOf zone room None = is_bad room zone ≡ true
IsMadeOf zone room (Some (table, left)) = IsTableOf zone room table left
