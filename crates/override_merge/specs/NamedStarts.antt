-- Which starts some stamps name: single values, and local days by their midnights.
use Rattle.std.specs.Prelude.{◌≡◌, Bool, ◌||◌, List, [], ◌∷◌, map, flat_map, option_to_list, ℤ}
use Rattle.std.specs.List.{list_any}
use Rattle.cal_moment.specs.declared.stamp.Stamp.{Stamp}
use Rattle.cal_model.specs.declared.object.Component.{Component}
use Rattle.cal_model.specs.declared.zone.ZoneTable.{ZoneTable}
use Rattle.cal_model.specs.Words.Integers.{same_int}
use Rattle.cal_model.specs.Recurrence.RecurrenceSet.{Reading}
use Rattle.cal_model.specs.Instances.Alignment.{Aligned, at, on_day, align, midnight_of}
use Rattle.cal_model.specs.Instances.Starts.{ascending}
use Rattle.override_merge.specs.declared.names.Names.{Names}

abbrev pub values_in : List Aligned → List ℤ
values_in [] = []
values_in (at value ∷ names) = value ∷ values_in names
values_in (on_day midnight ∷ names) = values_in names

abbrev pub days_in : List Aligned → List ℤ
days_in [] = []
days_in (at value ∷ names) = days_in names
days_in (on_day midnight ∷ names) = midnight ∷ days_in names

-- a start is one of the values, or lies on one of the days
abbrev pub has_name : Reading → ℤ → Names → Bool
has_name reading r names = list_any (same_int r) names.values || list_any (same_int (midnight_of (reading.local r))) names.days

-- the values and the days of some stamps in order
pub record IsNamesOf (named : List Aligned) (names : Names) : Type 0 where
  pub values : names.values ≡ ascending (values_in named)
  pub days : names.days ≡ ascending (days_in named)

-- what the RECURRENCE-IDs of components say
abbrev pub named_beside : List ZoneTable → Stamp → List Component → List Aligned
named_beside zones ids components = flat_map (λ (c : Component). map (λ x. align zones x ids) (option_to_list c.recurrence_id)) components
