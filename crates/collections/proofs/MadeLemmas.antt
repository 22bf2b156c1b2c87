-- Each change of a store: it has the effect of the change on the state, the origins follow, and what holds of stores stays.
use Rattle.std.proofs.Common.{◌≡◌, ◌≢◌, ℕ, ◌+◌, ◌≤◌, true, false, List, length, Option, Some, None, refl, sym, ap, ◌∙◌, subst, inl, inr, arith}
use Rattle.std.specs.Prelude.{slice_get, option_map, option_and_then, ◌==◌, ◌&&◌, bytes_eq, if◌then◌else◌}
use Rattle.std.proofs.lemmas.Bool.{cases_eq}
use Rattle.std.proofs.lemmas.Bool.Decides.{nat_tests}
use Rattle.cal_base.specs.Lists.NameMap.{value_at, with_value}
use Rattle.cal_model.specs.declared.stored.Stored.{Stored}
use Rattle.cal_model.specs.Words.Limits.{home_limit, change_cost}
use Rattle.cal_model.specs.Refusals.Preconditions.{holder}
use Rattle.cal_model.specs.State.ServerState.{Calendar, calendar_at, with_home, charged as state_charged, with_calendar as state_in_calendar}
use Rattle.cal_model.specs.State.Changes.{Change, put, effect, with_octets}
use Rattle.cal_model.specs.State.SoundStates.{IsSound, IsSoundChange}
use Rattle.cal_model.specs.History.Origins.{origins_after}
use Rattle.cal_model.proofs.State.SoundLaws.{effect-sound}
use Rattle.collections.specs.declared.home.KeptHome.{KeptHome}
use Rattle.collections.specs.KeptCalendars.{KeptObject, KeptCalendar, calendar_of}
use Rattle.collections.specs.Kept.{Kept, home_of, state_of, users_of, origins_of, kept_calendar}
use Rattle.collections.specs.Homes.{with_object, in_calendar, charged, in_home, AreHomes, HasRoom, IsAloneIn, IfHome}
use Rattle.collections.specs.Stores.{IsStore, HasRoomAt, MayBePut}
use Rattle.collections.proofs.NamedLemmas.{same_or_not, bytes_same, bytes_differ, with_value-each, value_at_with_same, value_at_with_other}
use Rattle.collections.proofs.StateLemmas.{home_shown, calendar_shown, state_of-in_home, home_of-in_calendar}
use Rattle.collections.proofs.HomesLemmas.{AreHomes-in_home, kept_calendar_same, kept_calendar_other, value_in_same, value_in_other, accepted_in, IsHome-in_calendar, IsHome-charged, calendar_some}

-- what a change has made of what is kept
pub record IsMade (old new : Kept) (change : Change) (origin : ℕ) : Type 0 where
  pub users : users_of new ≡ users_of old
  pub state : state_of new ≡ effect change (state_of old)
  pub origins : (home : ℕ) (calendar object : List ℕ) → origins_of new home calendar object ≡ origins_after change origin (origins_of old) home calendar object
  pub store : IsStore new

pub number_is : (m n : ℕ) → m ≡ n → (m == n) ≡ true
number_is m n e = grind (arith, nat_tests)

pub number_not : (m n : ℕ) → m ≢ n → (m == n) ≡ false
number_not m n e = grind (arith, nat_tests)

-- What is asked of the state, of what is kept

module _ (kept : Kept) (number : ℕ) where
  pub room_kept : (size : ℕ) → HasRoomAt (state_of kept) number size → IfHome kept.homes number (HasRoom size)
  room_kept size room home at = room (home_of home) (home_shown kept.users kept.homes number ∙ ap (option_map home_of) at)

  pub alone_kept : (stored : Stored) → stored.path.home ≡ number → MayBePut (state_of kept) number stored.path.calendar stored.path.object stored.octets → IfHome kept.homes number (IsAloneIn stored)
  alone_kept stored here may home at calendar there =
      let found : calendar_at (state_of kept) number stored.path.calendar ≡ Some (calendar_of calendar) =
      calendar_shown kept.users kept.homes number stored.path.calendar ∙ ap (option_map calendar_of) (calendar_some kept.homes number stored.path.calendar home at ∙ there) in
      let same : may.within ≡ calendar_of calendar = let known = may.there in cc in
      subst (λ (c : Calendar). holder c.objects stored.path.object stored.octets ≡ None) same may.alone

  -- a calendar that is there is kept
  pub calendar_kept : (name : List ℕ) (calendar : Calendar) → calendar_at (state_of kept) number name ≡ Some calendar → (c : KeptCalendar) × (kept_calendar kept.homes number name ≡ Some c)
  calendar_kept name calendar at = by (kept_calendar kept.homes number name) refl (sym (calendar_shown kept.users kept.homes number name) ∙ at) where
    by : (o : Option KeptCalendar) → kept_calendar kept.homes number name ≡ o → option_map calendar_of o ≡ Some calendar → (c : KeptCalendar) × (kept_calendar kept.homes number name ≡ Some c)
    by None is e = absurd cc
    by (Some c) is e = (c, is)

  pub calendar_not_kept : (name : List ℕ) → calendar_at (state_of kept) number name ≡ None → kept_calendar kept.homes number name ≡ None
  calendar_not_kept name at = by (kept_calendar kept.homes number name) (sym (calendar_shown kept.users kept.homes number name) ∙ at) where
    by : (o : Option KeptCalendar) → option_map calendar_of o ≡ None → o ≡ None
    by None e = refl
    by (Some c) e = absurd cc

-- A calendar that is changed in its home

module _ (old : Kept) (store : IsStore old) (number : ℕ) (name : List ℕ) (change : KeptCalendar → KeptCalendar) (made : Calendar → Calendar) (same : (c : KeptCalendar) → calendar_of (change c) ≡ made (calendar_of c))
    (stays : (c : KeptCalendar) → ((change c).home ≡ c.home) × ((change c).name ≡ c.name)) where
  abbrev changed : KeptHome → KeptHome
  changed home = in_calendar name change home

  abbrev charged_too : ℕ → KeptHome → KeptHome
  charged_too size home = charged size (in_calendar name change home)

  pub state_changed : state_of (record { users = old.users; homes = in_home number changed old.homes }) ≡ with_home (state_of old) number (state_in_calendar name made)
  state_changed =
      state_of-in_home old.users old.homes number changed (state_in_calendar name made) (λ home at. home_of-in_calendar home name change made same (store.homes number home at).in_order)

  pub state_charged_too : (size : ℕ) → state_of (record { users = old.users; homes = in_home number (charged_too size) old.homes }) ≡ with_home (state_of old) number (λ h. state_charged size (state_in_calendar name made h))
  state_charged_too size =
      state_of-in_home old.users old.homes number (charged_too size) (λ h. state_charged size (state_in_calendar name made h))
      (λ home at. ap (state_charged size) (home_of-in_calendar home name change made same (store.homes number home at).in_order))

  pub homes_changed : AreHomes (in_home number changed old.homes)
  homes_changed = AreHomes-in_home old.homes number changed (λ home at is. IsHome-in_calendar home name change number stays is) store.homes

  pub homes_charged : (size : ℕ) → IfHome old.homes number (HasRoom size) → AreHomes (in_home number (charged_too size) old.homes)
  homes_charged size room =
      AreHomes-in_home old.homes number (charged_too size)
      (λ home at is. IsHome-charged number size (in_calendar name change home) (subst (λ n. n + change_cost size ≤ home_limit) (sym (accepted_in home name change)) (room home at)) (IsHome-in_calendar home name change number stays is))
      store.homes

  -- the objects that are there, where calendars of homes are changed so
  module _ (whole : KeptHome → KeptHome) (calendars : (home : KeptHome) → (whole home).calendars ≡ (in_calendar name change home).calendars) where
    abbrev new_homes : List KeptHome
    new_homes = in_home number whole old.homes

    value_here : (home : KeptHome) → value_at (whole home).calendars name ≡ option_map change (value_at home.calendars name)
    value_here home = ap (λ named. value_at named name) (calendars home) ∙ value_in_same home name change

    here_by : (found : Option KeptHome) → option_and_then (λ (h : KeptHome). value_at (whole h).calendars name) found ≡ option_map change (option_and_then (λ (h : KeptHome). value_at h.calendars name) found)
    here_by None = refl
    here_by (Some home) = value_here home

    pub calendar_here : kept_calendar new_homes number name ≡ option_map change (kept_calendar old.homes number name)
    calendar_here = kept_calendar_same old.homes number whole name ∙ here_by (slice_get old.homes number)

    elsewhere_by : (found : Option KeptHome) (other : List ℕ) → other ≢ name → option_and_then (λ (h : KeptHome). value_at (whole h).calendars other) found ≡ option_and_then (λ (h : KeptHome). value_at h.calendars other) found
    elsewhere_by None other apart = refl
    elsewhere_by (Some home) other apart = ap (λ named. value_at named other) (calendars home) ∙ value_in_other home name change other apart

    pub calendar_beside : (other : List ℕ) → other ≢ name → kept_calendar new_homes number other ≡ kept_calendar old.homes number other
    calendar_beside other apart = kept_calendar_same old.homes number whole other ∙ elsewhere_by (slice_get old.homes number) other apart

    pub calendar_elsewhere : (m : ℕ) (other : List ℕ) → m ≢ number → kept_calendar new_homes m other ≡ kept_calendar old.homes m other
    calendar_elsewhere m other apart = kept_calendar_other old.homes number whole m other apart

abbrev pub object_in : List ℕ → Option KeptCalendar → Option KeptObject
object_in name found = option_and_then (λ (c : KeptCalendar). value_at c.objects name) found

abbrev pub origin_in : Option KeptObject → Option ℕ
origin_in found = option_map (λ (object : KeptObject). object.origin) found

-- A PUT

module _ (old : Kept) (store : IsStore old) (stored : Stored) (origin : ℕ) where
  abbrev object_put : KeptObject
  object_put = record { octets = stored.octets; origin = origin }

  abbrev home_put : KeptHome → KeptHome
  home_put home = charged (length stored.octets) (in_calendar stored.path.calendar (with_object stored.path.object object_put) home)

  abbrev change_put : Change
  change_put = put stored.path.home stored.path.calendar stored.path.object stored.octets

  abbrev kept_put : Kept
  kept_put = record { users = old.users; homes = in_home stored.path.home home_put old.homes }

  same_put : (c : KeptCalendar) → calendar_of (with_object stored.path.object object_put c) ≡ with_octets stored.path.object stored.octets (calendar_of c)
  same_put c = ap {B = Calendar} (λ objects. record { grants = c.grants; kinds = c.kinds; texts = c.texts; objects = objects }) (with_value-each (λ (object : KeptObject). object.octets) c.objects stored.path.object object_put)

  state_put : state_of kept_put ≡ effect change_put (state_of old)
  unfolding effect
  state_put = state_charged_too old store stored.path.home stored.path.calendar (with_object stored.path.object object_put) (with_octets stored.path.object stored.octets) same_put (λ c. (refl, refl)) (length stored.octets)

  put_in : (found : Option KeptCalendar) (c : KeptCalendar) → found ≡ Some c → (object : List ℕ) → origin_in (object_in object (option_map (with_object stored.path.object object_put) found))
      ≡ (if bytes_eq object stored.path.object then Some origin else origin_in (object_in object found))
  put_in found c is object = elim (same_or_not object stored.path.object) [
    | inl same ↦
        ap (λ o. origin_in (object_in object (option_map (with_object stored.path.object object_put) o))) is
        ∙ (ap (λ n. origin_in (value_at (with_value c.objects stored.path.object object_put) n)) same
        ∙ (ap origin_in (value_at_with_same c.objects stored.path.object object_put)
        ∙ sym (ap (λ b. if b then Some origin else origin_in (object_in object found)) (ap (λ n. bytes_eq n stored.path.object) same ∙ bytes_same stored.path.object))))
    | inr other ↦
        ap (λ o. origin_in (object_in object (option_map (with_object stored.path.object object_put) o))) is
        ∙ (ap origin_in (value_at_with_other c.objects stored.path.object object_put object other)
        ∙ (sym (ap (λ o. origin_in (object_in object o)) is)
        ∙ sym (ap (λ b. if b then Some origin else origin_in (object_in object found)) (bytes_differ object stored.path.object other))))
  ]

  origins_put : (c : KeptCalendar) → kept_calendar old.homes stored.path.home stored.path.calendar ≡ Some c
      → (m : ℕ) (calendar object : List ℕ) → origins_of kept_put m calendar object ≡ origins_after change_put origin (origins_of old) m calendar object
  origins_put c there m calendar object =
      let g = with_object stored.path.object object_put in
      let before = origins_of old m calendar object in
      elim (cases_eq m stored.path.home) [
        | inr other ↦
            ap (λ o. origin_in (object_in object o)) (calendar_elsewhere old store stored.path.home stored.path.calendar g (with_octets stored.path.object stored.octets) same_put (λ k. (refl, refl)) home_put (λ h. refl) m calendar other)
            ∙ sym (ap (λ b. if (b && bytes_eq calendar stored.path.calendar) && bytes_eq object stored.path.object then Some origin else before) (number_not m stored.path.home other))
        | inl here ↦ elim (same_or_not calendar stored.path.calendar) [
          | inr other ↦
              ap (λ n. origin_in (object_in object (kept_calendar kept_put.homes n calendar))) here
              ∙ (ap (λ o. origin_in (object_in object o)) (calendar_beside old store stored.path.home stored.path.calendar g (with_octets stored.path.object stored.octets) same_put (λ k. (refl, refl)) home_put (λ h. refl) calendar other)
              ∙ (sym (ap (λ n. origin_in (object_in object (kept_calendar old.homes n calendar))) here)
              ∙ sym (λ i. if ((number_is m stored.path.home here i) && (bytes_differ calendar stored.path.calendar other i)) && bytes_eq object stored.path.object then Some origin else before)))
          | inl same ↦
              ap (λ n. origin_in (object_in object (kept_calendar kept_put.homes n calendar))) here
              ∙ (ap (λ n. origin_in (object_in object (kept_calendar kept_put.homes stored.path.home n))) same
              ∙ (ap (λ o. origin_in (object_in object o)) (calendar_here old store stored.path.home stored.path.calendar g (with_octets stored.path.object stored.octets) same_put (λ k. (refl, refl)) home_put (λ h. refl))
              ∙ (put_in (kept_calendar old.homes stored.path.home stored.path.calendar) c there object
              ∙ (sym (λ i. if bytes_eq object stored.path.object then Some origin else origin_in (object_in object (kept_calendar old.homes (here i) (same i))))
              ∙ sym (λ i. if ((number_is m stored.path.home here i) && ((ap (λ n. bytes_eq n stored.path.calendar) same ∙ bytes_same stored.path.calendar) i)) && bytes_eq object stored.path.object then Some origin else before)))))
        ]
      ]

  pub made_put : HasRoomAt (state_of old) stored.path.home (length stored.octets) → MayBePut (state_of old) stored.path.home stored.path.calendar stored.path.object stored.octets → IsSoundChange (users_of old) change_put
      → IsMade old kept_put change_put origin
  made_put room may sound =
      let there = calendar_kept old stored.path.home stored.path.calendar may.within may.there in
      record {
        users = refl;
        state = state_put;
        origins = origins_put there.0 there.1;
        store = record {
          sound = subst (IsSound (users_of old)) (sym state_put) (effect-sound (users_of old) change_put (state_of old) sound store.sound);
          homes =
              homes_charged old store stored.path.home stored.path.calendar (with_object stored.path.object object_put) (with_octets stored.path.object stored.octets) same_put (λ c. (refl, refl)) (length stored.octets)
              (room_kept old stored.path.home (length stored.octets) room);
        };
      }
