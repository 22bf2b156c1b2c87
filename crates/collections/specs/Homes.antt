-- What changes make of homes that are kept, and what holds of these.
-- Given: a home, or the homes in the order of their users' numbers. Nothing is changed where it isn't there.
use Rattle.std.specs.Prelude.{◌≡◌, ℕ, zero, suc, ◌+◌, ◌≤◌, List, [], ◌∷◌, codes, Some, None, slice_get, slice_set}
use Rattle.cal_base.specs.Lists.NameMap.{IsInOrder, value_at, with_value, with_changed, without}
use Rattle.cal_model.specs.declared.privilege.Grant.{Grant}
use Rattle.cal_model.specs.declared.property.PropSet.{PropSet}
use Rattle.cal_model.specs.declared.stored.Stored.{Stored}
use Rattle.cal_model.specs.Properties.Settings.{texts_after_all, kinds_after_all}
use Rattle.cal_model.specs.Refusals.Preconditions.{holder}
use Rattle.cal_model.specs.State.ServerState.{every_kind, displayname}
use Rattle.cal_model.specs.Words.Limits.{home_limit, change_cost}
use Rattle.collections.specs.declared.home.KeptHome.{KeptHome}
use Rattle.collections.specs.KeptCalendars.{KeptObject, KeptCalendar, calendar_of}

-- Calendars

abbrev pub with_object : List ℕ → KeptObject → KeptCalendar → KeptCalendar
with_object name object kept = record kept { objects = with_value kept.objects name object }

abbrev pub without_object : List ℕ → KeptCalendar → KeptCalendar
without_object name kept = record kept { objects = without kept.objects name }

abbrev pub with_grants : List Grant → KeptCalendar → KeptCalendar
with_grants grants kept = record kept { grants = grants }

abbrev pub with_sets : List PropSet → KeptCalendar → KeptCalendar
with_sets sets kept = record kept { texts = texts_after_all kept.texts sets; kinds = kinds_after_all kept.kinds sets }

-- without objects and properties
abbrev pub empty_calendar : ℕ → List ℕ → KeptCalendar
empty_calendar home name = record { home = home; name = name; grants = []; kinds = every_kind; texts = []; objects = [] }

-- Homes

abbrev pub in_calendar : List ℕ → (KeptCalendar → KeptCalendar) → KeptHome → KeptHome
in_calendar name change home = elim (value_at home.calendars name) [
  | None ↦ home
  | Some kept ↦ record home { calendars = with_changed home.calendars name (change kept) }
]

abbrev pub with_calendar : List ℕ → KeptCalendar → KeptHome → KeptHome
with_calendar name kept home = record home { calendars = with_value home.calendars name kept }

abbrev pub without_calendar : List ℕ → KeptHome → KeptHome
without_calendar name home = record home { calendars = without home.calendars name }

abbrev pub charged : ℕ → KeptHome → KeptHome
charged size home = record home { accepted = home.accepted + change_cost size }

abbrev pub in_home : ℕ → (KeptHome → KeptHome) → List KeptHome → List KeptHome
in_home number change homes = elim (slice_get homes number) [
  | None ↦ homes
  | Some home ↦ slice_set homes number (change home)
]

-- What holds of the home of a user's number: each calendar is kept under its name.
pub record IsHome (number : ℕ) (home : KeptHome) : Type 0 where
  pub within : home.accepted ≤ home_limit
  pub in_order : IsInOrder home.calendars
  pub placed : (name : List ℕ) (kept : KeptCalendar) → value_at home.calendars name ≡ Some kept → (kept.home ≡ number) × (kept.name ≡ name)

abbrev pub AreHomes : List KeptHome → Type 0
AreHomes homes = (number : ℕ) (home : KeptHome) → slice_get homes number ≡ Some home → IsHome number home

-- a home has room for a change whose request had a body of so many octets
abbrev pub HasRoom : ℕ → KeptHome → Type 0
HasRoom size home = home.accepted + change_cost size ≤ home_limit

-- in the calendar that an object is put into no other has its UID
abbrev pub IsAloneIn : Stored → KeptHome → Type 0
IsAloneIn stored home =
    (kept : KeptCalendar) → value_at home.calendars stored.path.calendar ≡ Some kept → holder (calendar_of kept).objects stored.path.object stored.octets ≡ None

-- what holds of a home, if it is there
abbrev pub IfHome : List KeptHome → ℕ → (KeptHome → Type 0) → Type 0
IfHome homes number P = (home : KeptHome) → slice_get homes number ≡ Some home → P home

-- The homes at the start

abbrev pub first_name : List ℕ
first_name = codes "calendar"

abbrev pub opening_home : ℕ → KeptHome
opening_home number = record { accepted = 0; calendars = (first_name, record (empty_calendar number first_name) { texts = (displayname, codes "calendar") ∷ [] }) ∷ [] }

-- the homes of users from a number on
abbrev pub homes_from : ℕ → ℕ → List KeptHome
homes_from zero number = []
homes_from (suc users) number = opening_home number ∷ homes_from users (number + 1)

abbrev pub opening_homes : ℕ → List KeptHome
opening_homes users = homes_from users 0
