-- The RECURRENCE-IDs of an object beside one start, component by component, as numbers: values, and local days by their midnights.
use Rattle.std.specs.Prelude.{Bool, false, ◌||◌, if◌then◌else◌, List, [], ◌∷◌, All, map, filter, flat_map, option_to_list, is_some, ℤ}
use Rattle.std.specs.List.{list_any}
use Rattle.cal_moment.specs.declared.stamp.Stamp.{Stamp}
use Rattle.cal_model.specs.declared.object.Component.{Component}
use Rattle.cal_model.specs.declared.zone.ZoneTable.{ZoneTable}
use Rattle.cal_model.specs.Words.Integers.{same_int}
use Rattle.cal_model.specs.Instances.Alignment.{Aligned, at, on_day, align}
use Rattle.cal_model.specs.Instances.Rows.{start_or_due}
use Rattle.cal_model.specs.Objects.ResourceFaults.{can_align}
use Rattle.cal_object.specs.PartDates.{HasMoment}

-- The start beside which they are aligned

-- that of a component that is no override
abbrev pub master_stamps_of : Component → List Stamp
master_stamps_of c = if is_some c.recurrence_id then [] else option_to_list (start_or_due c.kind c.start c.extent)

abbrev pub master_stamps : List Component → List Stamp
master_stamps components = flat_map master_stamps_of components

abbrev pub id_stamps : List Component → List Stamp
id_stamps components = flat_map (λ (c : Component). option_to_list c.recurrence_id) components

-- What they say beside it

abbrev pub ids_of_component : List ZoneTable → Stamp → Component → List Aligned
ids_of_component zones start c = map (λ id. align zones id start) (filter (λ id. can_align zones id start) (option_to_list c.recurrence_id))

abbrev pub ids_beside : List ZoneTable → Stamp → List Component → List Aligned
ids_beside zones start components = flat_map (ids_of_component zones start) components

-- a RECURRENCE-ID is one that was read
abbrev pub HasReadId : Component → Type 0
HasReadId c = All HasMoment (option_to_list c.recurrence_id)

-- Numbers

abbrev pub values_in : List Aligned → List ℤ
values_in [] = []
values_in (at value ∷ ids) = value ∷ values_in ids
values_in (on_day midnight ∷ ids) = values_in ids

abbrev pub days_in : List Aligned → List ℤ
days_in [] = []
days_in (at value ∷ ids) = days_in ids
days_in (on_day midnight ∷ ids) = midnight ∷ days_in ids

-- some number stands twice
abbrev pub has_double : List ℤ → Bool
has_double [] = false
has_double (z ∷ zs) = list_any (same_int z) zs || has_double zs
