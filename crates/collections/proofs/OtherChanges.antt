-- The other changes of a store, as `MadeLemmas` has it of a PUT: settings and grants, which leave the objects as they are, deletions, and a calendar that is made.
use Rattle.std.proofs.Common.{◌≡◌, ◌≢◌, ℕ, ◌+◌, Bool, true, false, List, Option, Some, None, refl, sym, ap, ◌∙◌, subst, inl, inr}
use Rattle.std.specs.Prelude.{slice_get, option_map, option_and_then, ◌&&◌, bytes_eq, if◌then◌else◌}
use Rattle.std.proofs.lemmas.Bool.{cases_eq}
use Rattle.cal_base.specs.Lists.NameMap.{IsInOrder, value_at, with_value, without}
use Rattle.cal_model.specs.declared.property.PropSet.{PropSet}
use Rattle.cal_model.specs.declared.privilege.Grant.{Grant}
use Rattle.cal_model.specs.Words.Limits.{change_cost}
use Rattle.cal_model.specs.Properties.Settings.{made_by, set_on}
use Rattle.cal_model.specs.State.ServerState.{Calendar, Home, calendar_at, charged as state_charged}
use Rattle.cal_model.specs.State.Changes.{Change, delete_object, delete_calendar, make, patch, acl, effect, without_octets, with_grants as state_with_grants, with_new_calendar, without_calendar as state_without_calendar}
use Rattle.cal_model.specs.State.SoundStates.{IsSound, IsSoundChange}
use Rattle.cal_model.specs.History.Origins.{origins_after}
use Rattle.cal_model.proofs.State.SoundLaws.{effect-sound}
use Rattle.collections.specs.declared.home.KeptHome.{KeptHome}
use Rattle.collections.specs.KeptCalendars.{KeptObject, KeptCalendar, calendar_of}
use Rattle.collections.specs.Kept.{Kept, state_of, users_of, origins_of, kept_calendar}
use Rattle.collections.specs.Homes.{without_object, with_grants, with_sets, empty_calendar, in_calendar, with_calendar, without_calendar, charged, in_home}
use Rattle.collections.specs.Stores.{IsStore, HasRoomAt}
use Rattle.collections.proofs.NamedLemmas.{IsInOrder-unmapped, same_or_not, bytes_same, bytes_differ, with_value-each, without-each, value_at_with_same, value_at_with_other, value_at_without_same, value_at_without_other}
use Rattle.cal_model.proofs.State.NameWalkLaws.{calendar-sound}
use Rattle.collections.proofs.StateLemmas.{state_of-in_home, calendar_shown}
use Rattle.collections.proofs.HomesLemmas.{AreHomes-in_home, kept_calendar_same, kept_calendar_other, IsHome-charged, IsHome-with, IsHome-without}
use Rattle.collections.proofs.MadeLemmas.{IsMade, number_is, number_not, room_kept, calendar_not_kept, state_changed, state_charged_too, homes_changed, homes_charged, calendar_here, calendar_beside, calendar_elsewhere, object_in, origin_in}

-- Settings and grants

module _ (old : Kept) (store : IsStore old) (number : ℕ) (name : List ℕ) (size : ℕ) (change : KeptCalendar → KeptCalendar) (made : Calendar → Calendar) (same : (c : KeptCalendar) → calendar_of (change c) ≡ made (calendar_of c))
    (stays : (c : KeptCalendar) → ((change c).home ≡ c.home) × ((change c).name ≡ c.name)) (objects : (c : KeptCalendar) → (change c).objects ≡ c.objects) where
  abbrev home_set : KeptHome → KeptHome
  home_set home = charged size (in_calendar name change home)

  abbrev kept_set : Kept
  kept_set = record { users = old.users; homes = in_home number home_set old.homes }

  stays_in : (found : Option KeptCalendar) (object : List ℕ) → origin_in (object_in object (option_map change found)) ≡ origin_in (object_in object found)
  stays_in None object = refl
  stays_in (Some c) object = ap (λ named. origin_in (value_at named object)) (objects c)

  origins_set : (m : ℕ) (calendar object : List ℕ) → origins_of kept_set m calendar object ≡ origins_of old m calendar object
  origins_set m calendar object = elim (cases_eq m number) [
    | inr other ↦ ap (λ o. origin_in (object_in object o)) (calendar_elsewhere old store number name change made same stays home_set (λ h. refl) m calendar other)
    | inl here ↦ elim (same_or_not calendar name) [
      | inr other ↦
          ap (λ n. origin_in (object_in object (kept_calendar kept_set.homes n calendar))) here
          ∙ (ap (λ o. origin_in (object_in object o)) (calendar_beside old store number name change made same stays home_set (λ h. refl) calendar other)
          ∙ sym (ap (λ n. origin_in (object_in object (kept_calendar old.homes n calendar))) here))
      | inl at ↦
          ap (λ n. origin_in (object_in object (kept_calendar kept_set.homes n calendar))) here
          ∙ (ap (λ n. origin_in (object_in object (kept_calendar kept_set.homes number n))) at
          ∙ (ap (λ o. origin_in (object_in object o)) (calendar_here old store number name change made same stays home_set (λ h. refl))
          ∙ (stays_in (kept_calendar old.homes number name) object
          ∙ sym (λ i. origin_in (object_in object (kept_calendar old.homes (here i) (at i)))))))
    ]
  ]

  pub set_made : (entry : Change) (origin : ℕ) → state_of kept_set ≡ effect entry (state_of old) → ((m : ℕ) (calendar object : List ℕ) → origins_after entry origin (origins_of old) m calendar object ≡ origins_of old m calendar object)
      → IsSoundChange (users_of old) entry → HasRoomAt (state_of old) number size → IsMade old kept_set entry origin
  set_made entry origin state_is after sound room = record {
    users = refl;
    state = state_is;
    origins = λ m calendar object. origins_set m calendar object ∙ sym (after m calendar object);
    store = record {
      sound = subst (IsSound (users_of old)) (sym state_is) (effect-sound (users_of old) entry (state_of old) sound store.sound);
      homes = homes_charged old store number name change made same stays size (room_kept old number size room);
    };
  }

module _ (old : Kept) (store : IsStore old) (number : ℕ) (name : List ℕ) (size origin : ℕ) where
  pub made_patch : (sets : List PropSet) → HasRoomAt (state_of old) number size
      → IsMade old (record { users = old.users; homes = in_home number (λ home. charged size (in_calendar name (with_sets sets) home)) old.homes }) (patch number name sets size) origin
  unfolding effect
  made_patch sets room =
      set_made old store number name size (with_sets sets) (set_on sets) (λ c. refl) (λ c. (refl, refl)) (λ c. refl) (patch number name sets size) origin
      (state_charged_too old store number name (with_sets sets) (set_on sets) (λ c. refl) (λ c. (refl, refl)) size) (λ m calendar object. refl) tt room

  pub made_acl : (grants : List Grant) → HasRoomAt (state_of old) number size → IsSoundChange (users_of old) (acl number name grants size)
      → IsMade old (record { users = old.users; homes = in_home number (λ home. charged size (in_calendar name (with_grants grants) home)) old.homes }) (acl number name grants size) origin
  unfolding effect
  made_acl grants room sound =
      set_made old store number name size (with_grants grants) (state_with_grants grants) (λ c. refl) (λ c. (refl, refl)) (λ c. refl) (acl number name grants size) origin
      (state_charged_too old store number name (with_grants grants) (state_with_grants grants) (λ c. refl) (λ c. (refl, refl)) size) (λ m calendar object. refl) sound room

-- An object that is deleted

module _ (old : Kept) (store : IsStore old) (number : ℕ) (name object : List ℕ) (origin : ℕ) (ordered : (c : KeptCalendar) → kept_calendar old.homes number name ≡ Some c → value_at (without c.objects object) object ≡ None)
    (others : (c : KeptCalendar) → kept_calendar old.homes number name ≡ Some c → (other : List ℕ) → other ≢ object → value_at (without c.objects object) other ≡ value_at c.objects other) where
  abbrev home_deleted : KeptHome → KeptHome
  home_deleted home = in_calendar name (without_object object) home

  abbrev kept_deleted : Kept
  kept_deleted = record { users = old.users; homes = in_home number home_deleted old.homes }

  same_deleted : (c : KeptCalendar) → calendar_of (without_object object c) ≡ without_octets object (calendar_of c)
  same_deleted c = ap {B = Calendar} (λ objects. record { grants = c.grants; kinds = c.kinds; texts = c.texts; objects = objects }) (without-each (λ (o : KeptObject). o.octets) c.objects object)

  state_deleted : state_of kept_deleted ≡ effect (delete_object number name object) (state_of old)
  unfolding effect
  state_deleted = state_changed old store number name (without_object object) (without_octets object) same_deleted (λ c. (refl, refl))

  deleted_in : (found : Option KeptCalendar) → kept_calendar old.homes number name ≡ found → (o : List ℕ) → origin_in (object_in o (option_map (without_object object) found)) ≡ (if bytes_eq o object then None else origin_in (object_in o found))
  deleted_in None is o = by (bytes_eq o object) where
    by : (b : Bool) → ◌≡◌ {A = Option ℕ} None (if b then None else None)
    by true = refl
    by false = refl
  deleted_in (Some c) is o = elim (same_or_not o object) [
    | inl here ↦
        ap (λ n. origin_in (value_at (without c.objects object) n)) here ∙ (ap origin_in (ordered c is)
        ∙ sym (ap (λ b. if b then None else origin_in (value_at c.objects o)) (ap (λ n. bytes_eq n object) here ∙ bytes_same object)))
    | inr other ↦ ap origin_in (others c is o other) ∙ sym (ap (λ b. if b then None else origin_in (value_at c.objects o)) (bytes_differ o object other))
  ]

  origins_deleted : (m : ℕ) (calendar o : List ℕ) → origins_of kept_deleted m calendar o ≡ origins_after (delete_object number name object) origin (origins_of old) m calendar o
  origins_deleted m calendar o =
      let before = origins_of old m calendar o in
      elim (cases_eq m number) [
        | inr other ↦
            ap (λ f. origin_in (object_in o f)) (calendar_elsewhere old store number name (without_object object) (without_octets object) same_deleted (λ k. (refl, refl)) home_deleted (λ h. refl) m calendar other)
            ∙ sym (ap (λ b. if (b && bytes_eq calendar name) && bytes_eq o object then None else before) (number_not m number other))
        | inl here ↦ elim (same_or_not calendar name) [
          | inr other ↦
              ap (λ n. origin_in (object_in o (kept_calendar kept_deleted.homes n calendar))) here
              ∙ (ap (λ f. origin_in (object_in o f)) (calendar_beside old store number name (without_object object) (without_octets object) same_deleted (λ k. (refl, refl)) home_deleted (λ h. refl) calendar other)
              ∙ (sym (ap (λ n. origin_in (object_in o (kept_calendar old.homes n calendar))) here)
              ∙ sym (λ i. if ((number_is m number here i) && (bytes_differ calendar name other i)) && bytes_eq o object then None else before)))
          | inl at ↦
              ap (λ n. origin_in (object_in o (kept_calendar kept_deleted.homes n calendar))) here
              ∙ (ap (λ n. origin_in (object_in o (kept_calendar kept_deleted.homes number n))) at
              ∙ (ap (λ f. origin_in (object_in o f)) (calendar_here old store number name (without_object object) (without_octets object) same_deleted (λ k. (refl, refl)) home_deleted (λ h. refl))
              ∙ (deleted_in (kept_calendar old.homes number name) refl o
              ∙ (sym (λ i. if bytes_eq o object then None else origin_in (object_in o (kept_calendar old.homes (here i) (at i))))
              ∙ sym (λ i. if ((number_is m number here i) && ((ap (λ n. bytes_eq n name) at ∙ bytes_same name) i)) && bytes_eq o object then None else before)))))
        ]
      ]

  pub made_delete : IsMade old kept_deleted (delete_object number name object) origin
  made_delete = record {
    users = refl;
    state = state_deleted;
    origins = origins_deleted;
    store = record {
      sound = subst (IsSound (users_of old)) (sym state_deleted) (effect-sound (users_of old) (delete_object number name object) (state_of old) tt store.sound);
      homes = homes_changed old store number name (without_object object) (without_octets object) same_deleted (λ c. (refl, refl));
    };
  }

-- objects of a calendar that is kept stand in order
pub objects_in_order : (old : Kept) (number : ℕ) (name : List ℕ) (c : KeptCalendar) → IsStore old → kept_calendar old.homes number name ≡ Some c → IsInOrder c.objects
objects_in_order old number name c store at =
    IsInOrder-unmapped (λ (o : KeptObject). o.octets) c.objects
    (calendar-sound (users_of old) (state_of old) number name (calendar_of c) store.sound (calendar_shown old.users old.homes number name ∙ ap (option_map calendar_of) at)).objects_in_order

-- A calendar that is deleted

module _ (old : Kept) (store : IsStore old) (number : ℕ) (name : List ℕ) (origin : ℕ) where
  abbrev kept_without : Kept
  kept_without = record { users = old.users; homes = in_home number (without_calendar name) old.homes }

  state_without : state_of kept_without ≡ effect (delete_calendar number name) (state_of old)
  unfolding effect
  state_without =
      state_of-in_home old.users old.homes number (without_calendar name) (state_without_calendar name)
      (λ home at. ap {B = Home} (λ calendars. record { accepted = home.accepted; calendars = calendars }) (without-each calendar_of home.calendars name))

  gone_by : (found : Option KeptHome) → slice_get old.homes number ≡ found → option_and_then (λ (h : KeptHome). value_at (without h.calendars name) name) found ≡ None
  gone_by None is = refl
  gone_by (Some home) is = value_at_without_same home.calendars name (store.homes number home is).in_order

  beside_by : (found : Option KeptHome) (other : List ℕ) → slice_get old.homes number ≡ found → other ≢ name
      → option_and_then (λ (h : KeptHome). value_at (without h.calendars name) other) found ≡ option_and_then (λ (h : KeptHome). value_at h.calendars other) found
  beside_by None other is apart = refl
  beside_by (Some home) other is apart = value_at_without_other home.calendars name other (store.homes number home is).in_order apart

  origins_without : (m : ℕ) (calendar o : List ℕ) → origins_of kept_without m calendar o ≡ origins_after (delete_calendar number name) origin (origins_of old) m calendar o
  origins_without m calendar o =
      let before = origins_of old m calendar o in
      elim (cases_eq m number) [
        | inr other ↦
            ap (λ f. origin_in (object_in o f)) (kept_calendar_other old.homes number (without_calendar name) m calendar other)
            ∙ sym (ap (λ b. if b && bytes_eq calendar name then None else before) (number_not m number other))
        | inl here ↦ elim (same_or_not calendar name) [
          | inr other ↦
              ap (λ n. origin_in (object_in o (kept_calendar kept_without.homes n calendar))) here
              ∙ (ap (λ f. origin_in (object_in o f)) (kept_calendar_same old.homes number (without_calendar name) calendar ∙ beside_by (slice_get old.homes number) calendar refl other)
              ∙ (sym (ap (λ n. origin_in (object_in o (kept_calendar old.homes n calendar))) here)
              ∙ sym (λ i. if (number_is m number here i) && (bytes_differ calendar name other i) then None else before)))
          | inl at ↦
              ap (λ n. origin_in (object_in o (kept_calendar kept_without.homes n calendar))) here
              ∙ (ap (λ n. origin_in (object_in o (kept_calendar kept_without.homes number n))) at
              ∙ (ap (λ f. origin_in (object_in o f)) (kept_calendar_same old.homes number (without_calendar name) name ∙ gone_by (slice_get old.homes number) refl)
              ∙ sym (λ i. if (number_is m number here i) && ((ap (λ n. bytes_eq n name) at ∙ bytes_same name) i) then None else before)))
        ]
      ]

  pub made_delete_calendar : IsMade old kept_without (delete_calendar number name) origin
  made_delete_calendar = record {
    users = refl;
    state = state_without;
    origins = origins_without;
    store = record {
      sound = subst (IsSound (users_of old)) (sym state_without) (effect-sound (users_of old) (delete_calendar number name) (state_of old) tt store.sound);
      homes = AreHomes-in_home old.homes number (without_calendar name) (λ home at is. IsHome-without number home name is) store.homes;
    };
  }

-- A calendar that is made

module _ (old : Kept) (store : IsStore old) (number : ℕ) (name : List ℕ) (sets : List PropSet) (size origin : ℕ) where
  abbrev calendar_made : KeptCalendar
  calendar_made = with_sets sets (empty_calendar number name)

  abbrev home_made : KeptHome → KeptHome
  home_made home = charged size (with_calendar name (with_sets sets (empty_calendar number name)) home)

  abbrev kept_made : Kept
  kept_made = record { users = old.users; homes = in_home number home_made old.homes }

  state_made : state_of kept_made ≡ effect (make number name sets size) (state_of old)
  unfolding effect
  state_made =
      state_of-in_home old.users old.homes number home_made (λ h. state_charged size (with_new_calendar name (made_by sets) h))
      (λ home at. ap {B = Home} (λ calendars. record { accepted = home.accepted + change_cost size; calendars = calendars }) (with_value-each calendar_of home.calendars name calendar_made))

  nothing_by : (found : Option KeptHome) (o : List ℕ) → object_in o (option_and_then (λ (h : KeptHome). value_at (with_value h.calendars name calendar_made) name) found) ≡ None
  nothing_by None o = refl
  nothing_by (Some home) o = ap (object_in o) (value_at_with_same home.calendars name calendar_made)

  others_by : (found : Option KeptHome) (other : List ℕ) → other ≢ name
      → option_and_then (λ (h : KeptHome). value_at (with_value h.calendars name calendar_made) other) found ≡ option_and_then (λ (h : KeptHome). value_at h.calendars other) found
  others_by None other apart = refl
  others_by (Some home) other apart = value_at_with_other home.calendars name calendar_made other apart

  origins_made : kept_calendar old.homes number name ≡ None → (m : ℕ) (calendar o : List ℕ) → origins_of kept_made m calendar o ≡ origins_of old m calendar o
  origins_made absent m calendar o = elim (cases_eq m number) [
    | inr other ↦ ap (λ f. origin_in (object_in o f)) (kept_calendar_other old.homes number home_made m calendar other)
    | inl here ↦ elim (same_or_not calendar name) [
      | inr other ↦
          ap (λ n. origin_in (object_in o (kept_calendar kept_made.homes n calendar))) here
          ∙ (ap (λ f. origin_in (object_in o f)) (kept_calendar_same old.homes number home_made calendar ∙ others_by (slice_get old.homes number) calendar other)
          ∙ sym (ap (λ n. origin_in (object_in o (kept_calendar old.homes n calendar))) here))
      | inl at ↦
          ap (λ n. origin_in (object_in o (kept_calendar kept_made.homes n calendar))) here
          ∙ (ap (λ n. origin_in (object_in o (kept_calendar kept_made.homes number n))) at
          ∙ (ap (λ f. origin_in (object_in o f)) (kept_calendar_same old.homes number home_made name)
          ∙ (ap origin_in (nothing_by (slice_get old.homes number) o)
          ∙ (sym (ap (λ f. origin_in (object_in o f)) absent)
          ∙ sym (λ i. origin_in (object_in o (kept_calendar old.homes (here i) (at i))))))))
    ]
  ]

  pub made_make : HasRoomAt (state_of old) number size → calendar_at (state_of old) number name ≡ None → IsSoundChange (users_of old) (make number name sets size) → IsMade old kept_made (make number name sets size) origin
  made_make room absent sound = record {
    users = refl;
    state = state_made;
    origins = origins_made (calendar_not_kept old number name absent);
    store = record {
      sound = subst (IsSound (users_of old)) (sym state_made) (effect-sound (users_of old) (make number name sets size) (state_of old) sound store.sound);
      homes =
          AreHomes-in_home old.homes number home_made
          (λ home at is. IsHome-charged number size (with_calendar name calendar_made home) (room_kept old number size room home at) (IsHome-with number home name calendar_made refl refl is)) store.homes;
    };
  }

-- an object that is deleted, by the order of the objects
pub deleted : (old : Kept) (store : IsStore old) (number : ℕ) (name object : List ℕ) (origin : ℕ)
    → IsMade old (record { users = old.users; homes = in_home number (in_calendar name (without_object object)) old.homes }) (delete_object number name object) origin
deleted old store number name object origin =
    made_delete old store number name object origin (λ c at. value_at_without_same c.objects object (objects_in_order old number name c store at))
    (λ c at other apart. value_at_without_other c.objects object other (objects_in_order old number name c store at) apart)
