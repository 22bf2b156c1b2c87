-- The objects of a calendar by their names, and the index of their UIDs beside them.
-- Given: the two maps. UIDs are those of RFC 5545, 3.8.4.7; in a calendar each is of one object alone (RFC 4791, 4.1).
use Rattle.std.specs.Prelude.{◌≡◌, ℕ, List, Some}
use Rattle.cal_base.specs.Lists.NameMap.{Named, IsInOrder, value_at}
use Rattle.cal_model.specs.declared.stored.Stored.{Stored}
use Rattle.object_walk.specs.declared.entry.ObjectEntry.{ObjectEntry}

-- The index has each object at its UID, and nothing else.
pub record IsIndexed (by_name : Named ObjectEntry) (by_uid : Named Stored) : Type 0 where
  pub names_in_order : IsInOrder by_name
  pub uids_in_order : IsInOrder by_uid
  pub named : (name : List ℕ) (entry : ObjectEntry) → value_at by_name name ≡ Some entry → entry.stored.path.object ≡ name
  pub found : (name : List ℕ) (entry : ObjectEntry) → value_at by_name name ≡ Some entry → value_at by_uid entry.stored.object.uid ≡ Some entry.stored
  pub known : (uid : List ℕ) (stored : Stored) → value_at by_uid uid ≡ Some stored
      → (stored.object.uid ≡ uid) × (origin : ℕ) × (value_at by_name stored.path.object ≡ Some (record { stored = stored; origin = origin }))

-- An object may be put: no object of another name has its UID, and the one of its name has no other UID.
pub record IsAlone (by_name : Named ObjectEntry) (stored : Stored) : Type 0 where
  pub others : (name : List ℕ) (entry : ObjectEntry) → value_at by_name name ≡ Some entry → entry.stored.object.uid ≡ stored.object.uid → name ≡ stored.path.object
  pub own : (entry : ObjectEntry) → value_at by_name stored.path.object ≡ Some entry → entry.stored.object.uid ≡ stored.object.uid

-- all objects are at places in this calendar
abbrev pub ArePlaced : ℕ → List ℕ → Named ObjectEntry → Type 0
ArePlaced home calendar by_name =
    (name : List ℕ) (entry : ObjectEntry) → value_at by_name name ≡ Some entry → (entry.stored.path.home ≡ home) × (entry.stored.path.calendar ≡ calendar)
