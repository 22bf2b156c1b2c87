-- A calendar that is kept: how contracts see it, and what holds of it.
-- Given: its parts.
use Rattle.std.specs.Prelude.{◌≡◌, ℕ, List, Some}
use Rattle.std.specs.List.Sorted.{IsStrictlySortedBy}
use Rattle.std.specs.Map.{keys_of}
use Rattle.cal_base.specs.Lists.NameMap.{Named, IsInOrder, value_at}
use Rattle.cal_model.specs.declared.stored.Stored.{Stored}
use Rattle.cal_model.specs.declared.store.CalendarData.{CalendarData}
use Rattle.cal_model.specs.State.PropertyTexts.{prop_order, as_settings}
use Rattle.cal_model.specs.State.ServerState.{own_zone}
use Rattle.object_walk.specs.declared.entry.ObjectEntry.{ObjectEntry}
use Rattle.collections.specs.KeptCalendars.{KeptObject, KeptCalendar, each_value}
use Rattle.collections.specs.Objects.{IsIndexed, ArePlaced}
use Rattle.collections.specs.Settings.{texts_of}

abbrev pub kept_entry : ObjectEntry → KeptObject
kept_entry entry = record { octets = entry.stored.octets; origin = entry.origin }

-- the name of an object, with what is shown of it
abbrev pub shown_object : ObjectEntry → List ℕ × KeptObject
shown_object entry = (entry.stored.path.object, kept_entry entry)

abbrev pub kept_with : List ℕ → CalendarData → Named ObjectEntry → KeptCalendar
kept_with name kept by_name = record {
  home = kept.owner;
  name = name;
  grants = kept.acl.grants;
  kinds = kept.kinds;
  texts = texts_of kept.texts;
  objects = each_value kept_entry by_name;
}

-- The zone is that of the properties, these are all set and in order, and the objects are in this calendar, each at its UID in the index.
pub record IsCalendar (name : List ℕ) (kept : CalendarData) (by_name : Named ObjectEntry) (by_uid : Named Stored) : Type 0 where
  pub zone : kept.zone ≡ own_zone (texts_of kept.texts)
  pub set : kept.texts ≡ as_settings (texts_of kept.texts)
  pub in_order : IsStrictlySortedBy prop_order (keys_of (texts_of kept.texts))
  pub indexed : IsIndexed by_name by_uid
  pub placed : ArePlaced kept.owner name by_name

-- The same without the index, as looks share it.
pub record IsShownCalendar (name : List ℕ) (kept : CalendarData) (by_name : Named ObjectEntry) : Type 0 where
  pub zone : kept.zone ≡ own_zone (texts_of kept.texts)
  pub set : kept.texts ≡ as_settings (texts_of kept.texts)
  pub in_order : IsStrictlySortedBy prop_order (keys_of (texts_of kept.texts))
  pub names_in_order : IsInOrder by_name
  pub named : (object : List ℕ) (entry : ObjectEntry) → value_at by_name object ≡ Some entry → entry.stored.path.object ≡ object
  pub placed : ArePlaced kept.owner name by_name
