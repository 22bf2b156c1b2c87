-- What settings make of the properties of a calendar (RFC 4918, 9.2): where a property stands among those that were set, and which setting sets the time zone.
-- Given: properties as a store keeps them, or settings.
use Rattle.std.specs.Prelude.{◌≡◌, ℕ, suc, ◌<◌, ◌^◌, Bool, false, List, [], ◌∷◌, map, length, Option, Some, None, IfSome, option_map, option_and_then, unwrap_or, if◌then◌else◌}
use Rattle.std.specs.Ordering.{match_ordering}
use Rattle.std.specs.List.Sorted.{IsStrictlySortedBy}
use Rattle.std.specs.Map.{keys_of}
use Rattle.std.specs.Result.{result_ok}
use Rattle.std.specs.BTreeMap.{is_at}
use Rattle.cal_base.specs.Lines.ComponentTrees.{or_else}
use Rattle.cal_model.specs.declared.property.PropName.{PropName}
use Rattle.cal_model.specs.declared.property.PropSet.{PropSet}
use Rattle.cal_model.specs.declared.store.CalendarData.{CalendarData}
use Rattle.cal_model.specs.declared.zone.ZoneTable.{ZoneTable}
use Rattle.cal_model.specs.Objects.ObjectReading.{read_zone}
use Rattle.cal_model.specs.Properties.Settings.{texts_after_all, kinds_after_all}
use Rattle.cal_model.specs.State.PropertyTexts.{Texts, prop_order, as_settings}
use Rattle.cal_model.specs.State.ServerState.{calendar_timezone}

-- the properties that are kept as settings
abbrev pub texts_of : List PropSet → Texts
texts_of settings = map (λ (set : PropSet). (set.name, unwrap_or set.value [])) settings

-- how many properties stand before the first that is not below a name
abbrev pub place_in : List PropSet → PropName → ℕ
place_in [] name = 0
place_in (set ∷ sets) name = match_ordering (prop_order name set.name) 0 0 (suc (place_in sets name))

-- the last setting of the time zone (RFC 4791, 5.2.2)
abbrev pub is_zone : PropSet → Bool
is_zone set = is_at (prop_order calendar_timezone) set.name

abbrev pub last_zone : List PropSet → Option PropSet
last_zone [] = None
last_zone (set ∷ sets) = or_else (last_zone sets) (if is_zone set then Some set else None)

-- the zone that a setting gives: what its text reads as
abbrev pub zone_set : PropSet → Option ZoneTable
zone_set set = option_and_then (λ text. result_ok (read_zone text)) set.value

-- a text that can be read as a zone
abbrev pub IsShort : PropSet → Type 0
IsShort set = IfSome set.value (λ text. length text < 2 ^ 32)

-- the property at a place has a name
abbrev pub is_named_at : Option PropSet → PropName → Bool
is_named_at None name = false
is_named_at (Some set) name = is_at (prop_order name) set.name

-- where properties are kept as settings, in order, they are changed so
abbrev pub Changes : (Texts → Texts) → List PropSet → List PropSet → Type 0
Changes change old new = (texts : Texts) → IsStrictlySortedBy prop_order (keys_of texts) → old ≡ as_settings texts → new ≡ as_settings (change texts)

-- What settings make of the data of a calendar: the last setting of the time zone gives the zone, and without one it stays.
pub record HasSet (old : CalendarData) (sets : List PropSet) (new : CalendarData) : Type 0 where
  pub owner : new.owner ≡ old.owner
  pub acl : new.acl ≡ old.acl
  pub kinds : new.kinds ≡ kinds_after_all old.kinds sets
  pub zone : new.zone ≡ unwrap_or (option_map zone_set (last_zone sets)) old.zone
  pub texts : Changes (λ texts. texts_after_all texts sets) old.texts new.texts
