-- What the server holds: homes, their calendars, and in these the octets of calendar objects (RFC 4791, 4.2 and 5.2).
-- Given: the users and the groups. Gives: what a state has, the state at the start, and look-ups in it. What can be computed from a state stands nowhere in it: objects are read from their octets,
-- a calendar's zone from its property, entity tags from octets. It holds no index, nothing of connections, and no time.
use Rattle.std.specs.Prelude.{ℕ, ◌+◌, Bool, ◌==◌, List, [], ◌∷◌, map, filter, flat_map, position, bytes_eq, slice_get, slice_set, codes, Option, Some, None, option_map, option_and_then, option_to_list, unwrap_or}
use Rattle.std.specs.List.{list_any, enumerate_from}
use Rattle.std.specs.Result.{result_ok}
use Rattle.cal_base.specs.Lists.NameMap.{Named, value_at, with_value}
use Rattle.cal_model.specs.declared.object.Object.{Object}
use Rattle.cal_model.specs.declared.privilege.Grant.{Grant}
use Rattle.cal_model.specs.declared.property.PropName.{PropName}
use Rattle.cal_model.specs.declared.zone.ZoneTable.{ZoneTable}
use Rattle.cal_model.specs.Words.Limits.{change_cost}
use Rattle.cal_model.specs.Words.Namespaces.{dav, caldav}
use Rattle.cal_model.specs.Objects.ObjectReading.{read_object, read_zone}
use Rattle.cal_model.specs.State.PropertyTexts.{Texts, text_at}
use Rattle.cal_model.specs.Users.UsersFile.{User, Group, Users}

-- Who may use the server: the users' names, in the order of their numbers from 0, and the groups in the order of theirs.
pub record Directory : Type 0 where
  pub names : List (List ℕ)
  pub groups : List Group

abbrev pub directory_of : Users → Directory
directory_of users = record { names = map (λ (user : User). user.name) users.people; groups = users.groups }

-- a user is in a group (RFC 3744, 2)
abbrev pub has_member : ℕ → Group → Bool
has_member user group = list_any (λ member. member == user) group.members

-- the groups that a user is in, by their numbers
abbrev pub groups_of : Directory → ℕ → List ℕ
groups_of directory user = map (λ (group : ℕ × Group). group.0) (filter (λ (group : ℕ × Group). has_member user group.1) (enumerate_from 0 directory.groups))

-- a calendar
pub record Calendar : Type 0 where
  -- who may use it beside its owner, and how (RFC 3744, 5.5)
  pub grants : List Grant
  -- the kinds of objects that it takes (RFC 4791, 5.2.3): a sum of 1 for VEVENT, 2 for VTODO, 4 for VJOURNAL and 8 for VFREEBUSY
  pub kinds : ℕ
  -- the properties that were set on it
  pub texts : Texts
  -- the octets of its objects, by their names
  pub objects : Named (List ℕ)

-- a user's home (RFC 4791, 6.2.1)
pub record Home : Type 0 where
  -- what the changes accepted for it cost in all
  pub accepted : ℕ
  -- its calendars, by their names
  pub calendars : Named Calendar

-- the homes in the order of their users' numbers
pub record ServerState : Type 0 where
  pub homes : List Home

-- The state at the start

abbrev pub displayname : PropName
displayname = record { space = dav; name = codes "displayname" }

abbrev pub calendar_timezone : PropName
calendar_timezone = record { space = caldav; name = codes "calendar-timezone" }

abbrev pub every_kind : ℕ
every_kind = 15

-- The calendar that each home has at the start: named `calendar`, with that displayname, all four kinds, and nobody but its owner.
abbrev pub first_calendar : Calendar
first_calendar = record { grants = []; kinds = every_kind; texts = (displayname, codes "calendar") ∷ []; objects = [] }

abbrev pub first_home : Home
first_home = record { accepted = 0; calendars = (codes "calendar", first_calendar) ∷ [] }

-- the state in which the server begins
unfoldable pub opening_state : Directory → ServerState
opening_state directory = record { homes = map (λ name. first_home) directory.names }

-- What follows from a state

-- the number of a user, and the name of that number
abbrev pub user_number : Directory → List ℕ → Option ℕ
user_number directory name = position (bytes_eq name) directory.names

abbrev pub user_name : Directory → ℕ → List ℕ
user_name directory user = unwrap_or (slice_get directory.names user) []

-- the same of a group
abbrev pub group_number : Directory → List ℕ → Option ℕ
group_number directory name = position (λ (group : Group). bytes_eq name group.name) directory.groups

abbrev pub group_name : Directory → ℕ → List ℕ
group_name directory group = unwrap_or (option_map (λ (found : Group). found.name) (slice_get directory.groups group)) []

abbrev pub is_member : Directory → ℕ → ℕ → Bool
is_member directory group user = list_any (has_member user) (option_to_list (slice_get directory.groups group))

-- the object that stored octets are; each that is stored is one
abbrev pub object_of : List ℕ → Option Object
object_of octets = result_ok (read_object octets)

abbrev pub objects_of : Named (List ℕ) → List Object
objects_of objects = flat_map (λ (entry : List ℕ × List ℕ). option_to_list (object_of entry.1)) objects

-- a calendar's own zone: what its property says (RFC 4791, 5.2.2)
abbrev pub own_zone : Texts → Option ZoneTable
own_zone texts = option_and_then (λ text. result_ok (read_zone text)) (text_at texts calendar_timezone)

-- Look-ups

abbrev pub home_at : ServerState → ℕ → Option Home
home_at state user = slice_get state.homes user

abbrev pub calendar_at : ServerState → ℕ → List ℕ → Option Calendar
calendar_at state user name = option_and_then (λ (home : Home). value_at home.calendars name) (home_at state user)

abbrev pub octets_at : ServerState → ℕ → List ℕ → List ℕ → Option (List ℕ)
octets_at state user name object = option_and_then (λ (calendar : Calendar). value_at calendar.objects object) (calendar_at state user name)

-- Changes of one home, and of one calendar in it; nothing is changed where it isn't there

abbrev pub with_home : ServerState → ℕ → (Home → Home) → ServerState
with_home state user change = elim (home_at state user) [
  | None ↦ state
  | Some home ↦ record { homes = slice_set state.homes user (change home) }
]

abbrev pub with_calendar : List ℕ → (Calendar → Calendar) → Home → Home
with_calendar name change home = elim (value_at home.calendars name) [
  | None ↦ home
  | Some calendar ↦ record home { calendars = with_value home.calendars name (change calendar) }
]

-- a home that has accepted one more change, whose request had a body of so many octets
abbrev pub charged : ℕ → Home → Home
charged size home = record home { accepted = home.accepted + change_cost size }
