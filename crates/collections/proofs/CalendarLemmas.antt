-- A calendar that is kept, as contracts see it: its objects by name and in order, the holder of a UID, and what is left when objects are put and taken.
use Rattle.std.proofs.Common.{◌≡◌, ℕ, Bool, true, false, not, ◌&&◌, List, [], filter, Option, Some, None, refl, sym, ap, ◌∙◌, subst, inl, inr}
use Rattle.std.specs.Prelude.{bytes_eq, option_map, Result, Ok, Err, OnOk, OnErr, IfSome}
use Rattle.std.specs.Option.{option_copied}
use Rattle.std.specs.Borrow.{Bor}
use Rattle.std.proofs.lemmas.Bool.{false≢true}
use Rattle.std.proofs.lemmas.Slice.Eq.{bytes_eq-Decides}
use Rattle.std.specs.List.Sorted.{IsStrictlySortedBy}
use Rattle.std.specs.Map.{keys_of}
use Rattle.cal_base.specs.Lines.ComponentTrees.{first, or_else}
use Rattle.cal_base.specs.Lists.NameMap.{Named, IsInOrder, value_at, with_value, without, next_above}
use Rattle.cal_model.specs.declared.store.CalendarData.{CalendarData}
use Rattle.cal_model.specs.declared.stored.Stored.{Stored}
use Rattle.cal_model.specs.History.KeptChanges.{IsAtPlace}
use Rattle.cal_model.specs.Refusals.Preconditions.{has_uid, uid_of, holder}
use Rattle.object_walk.specs.declared.entry.ObjectEntry.{ObjectEntry}
use Rattle.collections.specs.KeptCalendars.{KeptObject, KeptCalendar, each_value}
use Rattle.collections.specs.Objects.{IsIndexed, IsAlone, ArePlaced}
use Rattle.collections.specs.Calendars.{kept_entry, kept_with, IsCalendar, IsShownCalendar}
use Rattle.collections.specs.Settings.{texts_of}
use Rattle.cal_model.specs.State.PropertyTexts.{prop_order, as_settings}
use Rattle.cal_model.specs.State.ServerState.{own_zone}
use Rattle.collections.specs.UidHolders.{with_uid, IsAloneWith}
use Rattle.collections.proofs.NamedLemmas.{same_or_not, bytes_same, value_at-each, with_value-each, without-each, next_above-each, IsInOrder-each, next_found, FirstPassing, none, some, first_passing, value_at_with_same, value_at_with_other, value_at_without_same, value_at_without_other}

-- Octets and their UID

-- the octets of an object have its UID
pub has_uid_stored : (uid : List ℕ) (stored : Stored) → has_uid (Some uid) stored.octets ≡ bytes_eq uid stored.object.uid
has_uid_stored uid stored = rw (stored.stored.reading, has_uid) refl

pub uid_stored : (stored : Stored) → uid_of stored.octets ≡ Some stored.object.uid
uid_stored stored = rw (stored.stored.reading, uid_of) refl

-- the octets of each object
abbrev pub octets_in : Named ObjectEntry → Named (List ℕ)
octets_in by_name = each_value (λ (object : KeptObject). object.octets) (each_value kept_entry by_name)

abbrev entry_octets : ObjectEntry → List ℕ
entry_octets entry = entry.stored.octets

octets_at-in : (by_name : Named ObjectEntry) (name : List ℕ) → value_at (octets_in by_name) name ≡ option_map entry_octets (value_at by_name name)
octets_at-in by_name name =
    value_at-each (λ (object : KeptObject). object.octets) (each_value kept_entry by_name) name
    ∙ (ap (option_map (λ (object : KeptObject). object.octets)) (value_at-each kept_entry by_name name) ∙ twice (value_at by_name name)) where
      twice : (o : Option ObjectEntry) → option_map (λ (object : KeptObject). object.octets) (option_map kept_entry o) ≡ option_map entry_octets o
      twice None = refl
      twice (Some entry) = refl

-- octets at a name are those of an object there
abbrev IsThere : Named ObjectEntry → List ℕ → List ℕ → Type 0
IsThere by_name name octets = (entry : ObjectEntry) × (value_at by_name name ≡ Some entry) × (entry.stored.octets ≡ octets)

there : (by_name : Named ObjectEntry) (name octets : List ℕ) → value_at (octets_in by_name) name ≡ Some octets → IsThere by_name name octets
there by_name name octets at = by (value_at by_name name) refl (sym (octets_at-in by_name name) ∙ at) where
  by : (o : Option ObjectEntry) → value_at by_name name ≡ o → option_map entry_octets o ≡ Some octets → IsThere by_name name octets
  by None is e = absurd cc
  by (Some entry) is e = (entry, is, cc)

octets_of_there : (by_name : Named ObjectEntry) (name : List ℕ) (entry : ObjectEntry) → value_at by_name name ≡ Some entry → value_at (octets_in by_name) name ≡ Some entry.stored.octets
octets_of_there by_name name entry is = octets_at-in by_name name ∙ ap (option_map entry_octets) is

-- A calendar with its index, and the same without it

pub without_index : {name : List ℕ} {kept : CalendarData} {by_name : Named ObjectEntry} {by_uid : Named Stored} → IsCalendar name kept by_name by_uid → IsShownCalendar name kept by_name
without_index calendar = record {
  zone = calendar.zone;
  set = calendar.set;
  in_order = calendar.in_order;
  names_in_order = calendar.indexed.names_in_order;
  named = calendar.indexed.named;
  placed = calendar.placed;
}

pub with_index : {name : List ℕ} {kept : CalendarData} {by_name : Named ObjectEntry} {by_uid : Named Stored} → IsShownCalendar name kept by_name → IsIndexed by_name by_uid → IsCalendar name kept by_name by_uid
with_index calendar indexed = record {
  zone = calendar.zone;
  set = calendar.set;
  in_order = calendar.in_order;
  indexed = indexed;
  placed = calendar.placed;
}

module _ (name : List ℕ) (kept : CalendarData) (by_name : Named ObjectEntry) (calendar : IsShownCalendar name kept by_name) (shown : KeptCalendar) (is : kept_with name kept by_name ≡ shown) where
  pub place_shown : (object : List ℕ) (entry : ObjectEntry) → value_at by_name object ≡ Some entry → IsAtPlace shown.home shown.name object entry.stored.path
  place_shown object entry at =
      subst (λ (k : KeptCalendar). IsAtPlace k.home k.name object entry.stored.path) is
      (record { home_is = (calendar.placed object entry at).0; calendar_is = (calendar.placed object entry at).1; object_is = calendar.named object entry at })

  pub object_shown : (object : List ℕ) → option_map kept_entry (value_at by_name object) ≡ value_at shown.objects object
  object_shown object = sym (value_at-each kept_entry by_name object) ∙ ap (λ (k : KeptCalendar). value_at k.objects object) is

  pub next_shown : (above_name : List ℕ) → option_map (λ (e : List ℕ × ObjectEntry). (e.0, kept_entry e.1)) (next_above by_name above_name) ≡ next_above shown.objects above_name
  next_shown above_name = sym (next_above-each kept_entry by_name above_name) ∙ ap (λ (k : KeptCalendar). next_above k.objects above_name) is

  -- the next object stands at its own name
  pub next_there : (above_name key : List ℕ) (entry : ObjectEntry) → next_above by_name above_name ≡ Some (key, entry) → value_at by_name key ≡ Some entry
  next_there above_name key entry next = next_found by_name above_name key entry calendar.names_in_order next

  pub next_named : (above_name key : List ℕ) (entry : ObjectEntry) → next_above by_name above_name ≡ Some (key, entry) → key ≡ entry.stored.path.object
  next_named above_name key entry next = sym (calendar.named key entry (next_there above_name key entry next))

  -- so it is found again by its own name
  pub next_again : (above_name key : List ℕ) (entry : ObjectEntry) → next_above by_name above_name ≡ Some (key, entry) → value_at by_name entry.stored.path.object ≡ Some entry
  next_again above_name key entry next = subst (λ n. value_at by_name n ≡ Some entry) (next_named above_name key entry next) (next_there above_name key entry next)

-- The holder of a UID

module _ (by_name : Named ObjectEntry) (by_uid : Named Stored) (indexed : IsIndexed by_name by_uid) (uid : List ℕ) where
  -- an object with the UID is the one in the index
  indexed_there : (name octets : List ℕ) → value_at (octets_in by_name) name ≡ Some octets → has_uid (Some uid) octets ≡ true
      → (stored : Stored) × (value_at by_uid uid ≡ Some stored) × (stored.path.object ≡ name) × (stored.octets ≡ octets)
  indexed_there name octets at has =
      let here = there by_name name octets at in
      let same : uid ≡ here.0.stored.object.uid = (bytes_eq-Decides uid here.0.stored.object.uid).0 (sym (has_uid_stored uid here.0.stored) ∙ (ap (has_uid (Some uid)) here.2 ∙ has)) in
      (here.0.stored, subst (λ u. value_at by_uid u ≡ Some here.0.stored) (sym same) (indexed.found name here.0 here.1), indexed.named name here.0 here.1, here.2)

  pub alone_with : IsAloneWith (octets_in by_name) uid
  alone_with a b octets octets' at at' has has' =
      let one = indexed_there a octets at has in
      let other = indexed_there b octets' at' has' in
      let same : one.0 ≡ other.0 = let p = one.1 in let q = other.1 in cc in
      sym one.2 ∙ (ap (λ (s : Stored). s.path.object) same ∙ other.2)

  -- the object in the index has the UID
  known_there : (stored : Stored) → value_at by_uid uid ≡ Some stored → (value_at (octets_in by_name) stored.path.object ≡ Some stored.octets) × (has_uid (Some uid) stored.octets ≡ true)
  known_there stored at =
      let known = indexed.known uid stored at in
      (octets_of_there by_name stored.path.object _ known.2, has_uid_stored uid stored ∙ (bytes_eq-Decides uid stored.object.uid).1 (sym known.0))

  -- the first object with the UID is the one in the index
  pub holder_of_uid : IsInOrder (octets_in by_name) → with_uid (octets_in by_name) uid ≡ option_map (λ (stored : Stored). (stored.path.object, stored.octets)) (value_at by_uid uid)
  holder_of_uid in_order = by (value_at by_uid uid) refl (first_passing (octets_in by_name) (λ pair. has_uid (Some uid) pair.1) in_order) where
    by : (o : Option Stored) → value_at by_uid uid ≡ o → FirstPassing (octets_in by_name) (λ pair. has_uid (Some uid) pair.1)
        → with_uid (octets_in by_name) uid ≡ option_map (λ (stored : Stored). (stored.path.object, stored.octets)) o
    by None is (none nothing all) = nothing
    by None is (some found first_is at passes) = let one = indexed_there found.0 found.1 at passes in let e = one.1 in absurd cc
    by (Some stored) is (none nothing all) =
        let here = known_there stored is in
        absurd (false≢true (sym (all stored.path.object stored.octets here.0) ∙ here.1))
    by (Some stored) is (some found first_is at passes) =
        let one = indexed_there found.0 found.1 at passes in
        let same : one.0 ≡ stored = let e = one.1 in cc in
        let pair : (stored.path.object, stored.octets) ≡ found = (λ i. ((sym (ap (λ (s : Stored). s.path.object) same) ∙ one.2) i, (sym (ap (λ (s : Stored). s.octets) same) ∙ one.3) i)) in
        first_is ∙ ap Some (sym pair)

-- What is lent is what is there

pub copied : {X Y : Type 0} (f : X → Y) (o : Option (Bor X)) → option_map (λ (b : Bor X). f b.now) o ≡ option_map f (option_copied o)
copied f None = refl
copied f (Some b) = refl

pub octets_in_order : (by_name : Named ObjectEntry) → IsInOrder by_name → IsInOrder (octets_in by_name)
octets_in_order by_name in_order = IsInOrder-each (λ (object : KeptObject). object.octets) (each_value kept_entry by_name) (IsInOrder-each kept_entry by_name in_order)

-- Putting

neither : {X : Type 0} (a b : Option X) → or_else a b ≡ None → (a ≡ None) × (b ≡ None)
neither None b e = (refl, e)
neither (Some x) b e = absurd cc

both_false : (a : Bool) → (not a && true) ≡ false → a ≡ true
both_false true e = refl
both_false false e = absurd (false≢true (sym e))

only_not : (a : Bool) → (true && not a) ≡ false → a ≡ true
only_not true e = refl
only_not false e = absurd (false≢true (sym e))

module _ (by_name : Named ObjectEntry) (in_order : IsInOrder by_name) (stored : Stored) (free : holder (octets_in by_name) stored.path.object stored.octets ≡ None) where
  abbrev takes_uid : List ℕ × List ℕ → Bool
  takes_uid pair = not (bytes_eq pair.0 stored.path.object) && has_uid (uid_of stored.octets) pair.1

  abbrev has_other : List ℕ × List ℕ → Bool
  has_other pair = bytes_eq pair.0 stored.path.object && not (has_uid (uid_of stored.octets) pair.1)

  none_passes : (test : List ℕ × List ℕ → Bool) → first (filter test (octets_in by_name)) ≡ None → FirstPassing (octets_in by_name) test
      → (name octets : List ℕ) → value_at (octets_in by_name) name ≡ Some octets → test (name, octets) ≡ false
  none_passes test is (none nothing all) = all
  none_passes test is (some found first_is at passes) = absurd cc

  -- the UID of an object that is there, against that of the new one
  uid_against : (entry : ObjectEntry) → has_uid (uid_of stored.octets) entry.stored.octets ≡ bytes_eq stored.object.uid entry.stored.object.uid
  uid_against entry = ap (λ o. has_uid o entry.stored.octets) (uid_stored stored) ∙ has_uid_stored stored.object.uid entry.stored

  pub alone_from_free : IsAlone by_name stored
  alone_from_free =
      let ordered = octets_in_order by_name in_order in
      let both = neither _ _ free in
      record {
        others = λ name entry at same.
            let fails = none_passes takes_uid both.0 (first_passing (octets_in by_name) takes_uid ordered) name entry.stored.octets (octets_of_there by_name name entry at) in
            let has : has_uid (uid_of stored.octets) entry.stored.octets ≡ true = uid_against entry ∙ (bytes_eq-Decides stored.object.uid entry.stored.object.uid).1 (sym same) in
            (bytes_eq-Decides name stored.path.object).0 (both_false (bytes_eq name stored.path.object) (sym (ap (λ b. not (bytes_eq name stored.path.object) && b) has) ∙ fails));
        own = λ entry at.
            let fails = none_passes has_other both.1 (first_passing (octets_in by_name) has_other ordered) stored.path.object entry.stored.octets (octets_of_there by_name stored.path.object entry at) in
            let here = bytes_same stored.path.object in
            let has = only_not (has_uid (uid_of stored.octets) entry.stored.octets) (sym (ap (λ b. b && not (has_uid (uid_of stored.octets) entry.stored.octets)) here) ∙ fails) in
            sym ((bytes_eq-Decides stored.object.uid entry.stored.object.uid).0 (sym (uid_against entry) ∙ has));
      }

-- what is put is in the calendar, as what was there
pub placed_put : (home : ℕ) (calendar : List ℕ) (by_name : Named ObjectEntry) (entry : ObjectEntry) → ArePlaced home calendar by_name → entry.stored.path.home ≡ home → entry.stored.path.calendar ≡ calendar
    → ArePlaced home calendar (with_value by_name entry.stored.path.object entry)
placed_put home calendar by_name entry placed home_is calendar_is name found at = elim (same_or_not name entry.stored.path.object) [
  | inl here ↦
      let same : found ≡ entry = let now = value_at_with_same by_name entry.stored.path.object entry in let then : value_at (with_value by_name entry.stored.path.object entry) entry.stored.path.object ≡ Some found = subst (λ n. value_at (with_value by_name entry.stored.path.object entry) n ≡ Some found) here at in cc in
      subst (λ (e : ObjectEntry). (e.stored.path.home ≡ home) × (e.stored.path.calendar ≡ calendar)) (sym same) (home_is, calendar_is)
  | inr other ↦ placed name found (sym (value_at_with_other by_name entry.stored.path.object entry name other) ∙ at)
]

pub placed_after_put : {E : Type 0} (home : ℕ) (calendar : List ℕ) (by_name by_name' : Named ObjectEntry) (entry : ObjectEntry) (result : Result (Unit {0}) E)
    → OnOk result (by_name' ≡ with_value by_name entry.stored.path.object entry) → OnErr result (by_name' ≡ by_name)
    → ArePlaced home calendar by_name → entry.stored.path.home ≡ home → entry.stored.path.calendar ≡ calendar → ArePlaced home calendar by_name'
placed_after_put home calendar by_name by_name' entry (Ok done) ok err placed home_is calendar_is = subst (ArePlaced home calendar) (sym ok) (placed_put home calendar by_name entry placed home_is calendar_is)
placed_after_put home calendar by_name by_name' entry (Err e) ok err placed home_is calendar_is = subst (ArePlaced home calendar) (sym err) placed

pub placed_left : (home : ℕ) (calendar : List ℕ) (by_name : Named ObjectEntry) (object : List ℕ) → IsInOrder by_name → ArePlaced home calendar by_name → ArePlaced home calendar (without by_name object)
placed_left home calendar by_name object in_order placed name found at = elim (same_or_not name object) [
  | inl here ↦
      let gone = value_at_without_same by_name object in_order in
      let then : value_at (without by_name object) object ≡ Some found = subst (λ n. value_at (without by_name object) n ≡ Some found) here at in absurd cc
  | inr other ↦ placed name found (sym (value_at_without_other by_name object name in_order other) ∙ at)
]

-- What contracts see of it

module _ (name : List ℕ) (kept : CalendarData) (by_name by_name' : Named ObjectEntry) (shown : KeptCalendar) (is : kept_with name kept by_name ≡ shown) where
  pub put_shown : (object : List ℕ) (entry : ObjectEntry) → by_name' ≡ with_value by_name object entry → kept_with name kept by_name' ≡ record shown { objects = with_value shown.objects object (kept_entry entry) }
  put_shown object entry e =
      subst (λ (k : KeptCalendar). kept_with name kept by_name' ≡ record k { objects = with_value k.objects object (kept_entry entry) }) is
      (ap (kept_with name kept) e ∙ ap (λ (objects : Named KeptObject). record (kept_with name kept by_name) { objects = objects }) (with_value-each kept_entry by_name object entry))

  pub taken_shown : (object : List ℕ) → by_name' ≡ without by_name object → kept_with name kept by_name' ≡ record shown { objects = without shown.objects object }
  taken_shown object e =
      subst (λ (k : KeptCalendar). kept_with name kept by_name' ≡ record k { objects = without k.objects object }) is
      (ap (kept_with name kept) e ∙ ap (λ (objects : Named KeptObject). record (kept_with name kept by_name) { objects = objects }) (without-each kept_entry by_name object))

-- the octets of what is taken
pub octets_taken : (o : Option ObjectEntry) → option_map (λ (stored : Stored). stored.octets) (option_map (λ (entry : ObjectEntry). entry.stored) o) ≡ option_map (λ (object : KeptObject). object.octets) (option_map kept_entry o)
octets_taken None = refl
octets_taken (Some entry) = refl

-- its place
pub place_taken : (o : Option ObjectEntry) (P : ObjectEntry → Type 0) (Q : Stored → Type 0) → ((entry : ObjectEntry) → P entry → Q entry.stored) → IfSome o P → IfSome (option_map (λ (entry : ObjectEntry). entry.stored) o) Q
place_taken None P Q f h = tt
place_taken (Some entry) P Q f h = f entry h

pub there_or_not : {X : Type 0} (o : Option X) → IfSome o (λ x. o ≡ Some x)
there_or_not None = tt
there_or_not (Some x) = refl

-- nothing is kept in a new calendar
no_value : {V : Type 0} (name : List ℕ) (value : V) (named : Named V) → named ≡ [] → value_at named name ≡ Some value → ⊥
no_value name value named e at = let gone = ap (λ m. value_at m name) e in absurd cc

pub nothing_kept : (name : List ℕ) (kept : CalendarData) (by_name : Named ObjectEntry) (by_uid : Named Stored) → kept.zone ≡ None → kept.texts ≡ [] → by_name ≡ [] → by_uid ≡ [] → IsCalendar name kept by_name by_uid
unfolding IsStrictlySortedBy
nothing_kept name kept by_name by_uid zone texts names uids = record {
  zone = zone ∙ ap (λ settings. own_zone (texts_of settings)) (sym texts);
  set = subst (λ settings. settings ≡ as_settings (texts_of settings)) (sym texts) refl;
  in_order = subst (λ settings. IsStrictlySortedBy prop_order (keys_of (texts_of settings))) (sym texts) tt;
  indexed = record {
    names_in_order = subst IsInOrder (sym names) tt;
    uids_in_order = subst IsInOrder (sym uids) tt;
    named = λ n e at. absurd (no_value n e by_name names at);
    found = λ n e at. absurd (no_value n e by_name names at);
    known = λ u s at. absurd (no_value u s by_uid uids at);
  };
  placed = λ n e at. absurd (no_value n e by_name names at);
}
