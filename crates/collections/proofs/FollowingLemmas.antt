-- The entry of a journal that is followed: what it needs holds where it is accepted, and it makes what the definition says.
use Rattle.std.proofs.Common.{◌≡◌, ℕ, ◌+◌, length, sym, ap, ◌∙◌, subst, arith}
use Rattle.cal_model.specs.declared.change.Change.{Change as KeptChange}
use Rattle.cal_model.specs.declared.change.Change.TheVariants.{Put, DeleteObject, DeleteCalendar, Make, Patch, Acl}
use Rattle.cal_model.specs.History.KeptChanges.{kept_change, IsAcceptable}
use Rattle.cal_model.specs.State.Changes.{Change}
use Rattle.cal_model.specs.State.SoundStates.{IsSoundChange}
use Rattle.collections.specs.declared.home.KeptHome.{KeptHome}
use Rattle.collections.specs.KeptCalendars.{KeptCalendar}
use Rattle.collections.specs.Kept.{Kept, state_of, users_of}
use Rattle.collections.specs.Homes.{with_object, without_object, with_grants, with_sets, without_calendar, in_calendar, in_home, charged, IfHome}
use Rattle.collections.specs.Following.{home_in, home_after, HasRoomFor, IsShortIn}
use Rattle.collections.specs.Stores.{IsStore}
use Rattle.collections.proofs.AcceptedLemmas.{accepted_put, accepted_make, accepted_patch, accepted_acl}
use Rattle.collections.proofs.MadeLemmas.{IsMade, room_kept, made_put}
use Rattle.collections.proofs.OtherChanges.{made_patch, made_acl, made_make, made_delete_calendar, deleted}
use Rattle.collections.proofs.ShownLemmas.{home_of_calendars}

-- a deletion costs nothing
no_more : (home : KeptHome) → ◌≡◌ {A = KeptHome} home (record { accepted = home.accepted + 0; calendars = home.calendars })
no_more home = let more : home.accepted ≡ home.accepted + 0 = omega arith in ap {B = KeptHome} (λ n. record { accepted = n; calendars = home.calendars }) more

module _ (old : Kept) (store : IsStore old) where
  -- what a change that is accepted needs
  pub room_for : (change : KeptChange) → IsAcceptable (users_of old) (state_of old) (kept_change change) → IfHome old.homes (home_in change) (HasRoomFor change)
  room_for (Put stored) ok = room_kept old stored.path.home (length stored.octets) (accepted_put (users_of old) (state_of old) store.sound stored.path.home stored.path.calendar stored.path.object stored.octets ok).0
  room_for (DeleteObject stored) ok = λ home at. let within = (store.homes stored.path.home home at).within in omega (arith, within)
  room_for (DeleteCalendar number name) ok = λ home at. let within = (store.homes number home at).within in omega (arith, within)
  room_for (Make number name sets size) ok = room_kept old number size (accepted_make (users_of old) (state_of old) store.sound number name sets size ok).0
  room_for (Patch number name sets size) ok = room_kept old number size (accepted_patch (users_of old) (state_of old) store.sound number name sets size ok).0
  room_for (Acl number name grants size) ok = room_kept old number size (accepted_acl (users_of old) (state_of old) store.sound number name grants size ok)

  pub short_in : (change : KeptChange) → IsAcceptable (users_of old) (state_of old) (kept_change change) → IsShortIn change
  short_in (Put stored) ok = tt
  short_in (DeleteObject stored) ok = tt
  short_in (DeleteCalendar number name) ok = tt
  short_in (Make number name sets size) ok = (accepted_make (users_of old) (state_of old) store.sound number name sets size ok).2
  short_in (Patch number name sets size) ok = (accepted_patch (users_of old) (state_of old) store.sound number name sets size ok).1
  short_in (Acl number name grants size) ok = tt

  module _ (origin : ℕ) where
    -- homes that are changed alike have become the same
    made_alike : (number : ℕ) (change other : KeptHome → KeptHome) (entry : Change) → ((home : KeptHome) → change home ≡ other home)
        → IsMade old (record { users = old.users; homes = in_home number change old.homes }) entry origin → IsMade old (record { users = old.users; homes = in_home number other old.homes }) entry origin
    made_alike number change other entry same =
        subst (λ (f : KeptHome → KeptHome). IsMade old (record { users = old.users; homes = in_home number f old.homes }) entry origin) (λ i home. same home i)

    pub followed : (change : KeptChange) → IsAcceptable (users_of old) (state_of old) (kept_change change) → IsSoundChange (users_of old) (kept_change change)
        → IsMade old (record { users = old.users; homes = in_home (home_in change) (home_after change origin) old.homes }) (kept_change change) origin
    followed (Put stored) ok sound =
        let may = accepted_put (users_of old) (state_of old) store.sound stored.path.home stored.path.calendar stored.path.object stored.octets ok in
        let put : KeptCalendar → KeptCalendar = with_object stored.path.object (record { octets = stored.octets; origin = origin }) in
        made_alike stored.path.home (λ home. charged (length stored.octets) (in_calendar stored.path.calendar put home)) (home_after (Put stored) origin) (kept_change (Put stored))
        (λ home. ap (charged (length stored.octets)) (sym (home_of_calendars home stored.path.calendar put)))
        (made_put old store stored origin may.0 may.1 sound)
    followed (DeleteObject stored) ok sound =
        made_alike stored.path.home (in_calendar stored.path.calendar (without_object stored.path.object)) (home_after (DeleteObject stored) origin) (kept_change (DeleteObject stored))
        (λ home. no_more (in_calendar stored.path.calendar (without_object stored.path.object) home) ∙ sym (ap {B = KeptHome} (λ (h : KeptHome). record { accepted = h.accepted + 0; calendars = h.calendars }) (home_of_calendars home stored.path.calendar (without_object stored.path.object))))
        (deleted old store stored.path.home stored.path.calendar stored.path.object origin)
    followed (DeleteCalendar number name) ok sound =
        made_alike number (without_calendar name) (home_after (DeleteCalendar number name) origin) (kept_change (DeleteCalendar number name)) (λ home. no_more (without_calendar name home))
        (made_delete_calendar old store number name origin)
    followed (Make number name sets size) ok sound =
        let may = accepted_make (users_of old) (state_of old) store.sound number name sets size ok in
        made_make old store number name sets size origin may.0 may.1 sound
    followed (Patch number name sets size) ok sound =
        let may = accepted_patch (users_of old) (state_of old) store.sound number name sets size ok in
        made_alike number (λ home. charged size (in_calendar name (with_sets sets) home)) (home_after (Patch number name sets size) origin) (kept_change (Patch number name sets size))
        (λ home. ap (charged size) (sym (home_of_calendars home name (with_sets sets))))
        (made_patch old store number name size origin sets may.0)
    followed (Acl number name grants size) ok sound =
        let room = accepted_acl (users_of old) (state_of old) store.sound number name grants size ok in
        made_alike number (λ home. charged size (in_calendar name (with_grants grants) home)) (home_after (Acl number name grants size) origin) (kept_change (Acl number name grants size))
        (λ home. ap (charged size) (sym (home_of_calendars home name (with_grants grants))))
        (made_acl old store number name size origin grants room sound)
