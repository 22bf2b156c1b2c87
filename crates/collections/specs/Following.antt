-- What the change of a journal's entry makes of its home, where looks share it, and what it needs.
-- Given: the change as the journal keeps it, the number of its entry, and the calendars of the home or the home.
use Rattle.std.specs.Prelude.{◌≡◌, ℕ, ◌+◌, ◌≤◌, List, length, Some, None, IfSome}
use Rattle.cal_base.specs.Lists.NameMap.{Named, value_at, with_value, with_changed, without}
use Rattle.cal_model.specs.declared.change.Change.{Change}
use Rattle.cal_model.specs.declared.change.Change.TheVariants as kept
use Rattle.cal_model.specs.Words.Limits.{home_limit, change_cost}
use Rattle.collections.specs.declared.home.KeptHome.{KeptHome}
use Rattle.collections.specs.KeptCalendars.{KeptCalendar}
use Rattle.collections.specs.Homes.{with_object, without_object, with_grants, with_sets, empty_calendar}
use Rattle.collections.specs.Settings.{last_zone, IsShort}

-- the number of the user whose home it is in
abbrev pub home_in : Change → ℕ
home_in (kept.Put stored) = stored.path.home
home_in (kept.DeleteObject stored) = stored.path.home
home_in (kept.DeleteCalendar home name) = home
home_in (kept.Make home name sets size) = home
home_in (kept.Patch home name sets size) = home
home_in (kept.Acl home name grants size) = home

-- what it costs the home
abbrev pub cost_in : Change → ℕ
cost_in (kept.Put stored) = change_cost (length stored.octets)
cost_in (kept.DeleteObject stored) = 0
cost_in (kept.DeleteCalendar home name) = 0
cost_in (kept.Make home name sets size) = change_cost size
cost_in (kept.Patch home name sets size) = change_cost size
cost_in (kept.Acl home name grants size) = change_cost size

-- calendars of which one is changed, where it is there
abbrev pub in_calendars : List ℕ → (KeptCalendar → KeptCalendar) → Named KeptCalendar → Named KeptCalendar
in_calendars name change calendars = elim (value_at calendars name) [
  | None ↦ calendars
  | Some calendar ↦ with_changed calendars name (change calendar)
]

-- the calendars of the home after it, as entry `origin`
abbrev pub calendars_after : Change → ℕ → Named KeptCalendar → Named KeptCalendar
calendars_after (kept.Put stored) origin calendars =
    in_calendars stored.path.calendar (with_object stored.path.object (record { octets = stored.octets; origin = origin })) calendars
calendars_after (kept.DeleteObject stored) origin calendars = in_calendars stored.path.calendar (without_object stored.path.object) calendars
calendars_after (kept.DeleteCalendar home name) origin calendars = without calendars name
calendars_after (kept.Make home name sets size) origin calendars = with_value calendars name (with_sets sets (empty_calendar home name))
calendars_after (kept.Patch home name sets size) origin calendars = in_calendars name (with_sets sets) calendars
calendars_after (kept.Acl home name grants size) origin calendars = in_calendars name (with_grants grants) calendars

-- the home after it
abbrev pub home_after : Change → ℕ → KeptHome → KeptHome
home_after change origin home = record { accepted = home.accepted + cost_in change; calendars = calendars_after change origin home.calendars }

-- What it needs

-- the text of a zone that it sets can be read
abbrev pub IsShortIn : Change → Type 0
IsShortIn (kept.Make home name sets size) = IfSome (last_zone sets) IsShort
IsShortIn (kept.Patch home name sets size) = IfSome (last_zone sets) IsShort
IsShortIn other = Unit {0}

-- each calendar of the home is kept under its name
abbrev pub AreOf : ℕ → Named KeptCalendar → Type 0
AreOf number calendars = (name : List ℕ) (calendar : KeptCalendar) → value_at calendars name ≡ Some calendar → (calendar.home ≡ number) × (calendar.name ≡ name)

-- the home has room for what it costs
abbrev pub HasRoomFor : Change → KeptHome → Type 0
HasRoomFor change home = home.accepted + cost_in change ≤ home_limit
