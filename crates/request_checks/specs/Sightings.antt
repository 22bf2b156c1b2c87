-- What is seen at the parts of a path, each for itself, in the words of `Sight.Scenes` (RFC 4918, 5; RFC 4791, 4.2).
use Rattle.std.specs.Prelude.{◌≡◌, ◌≤◌, All, length, ℕ, Bool, true, false, not, ◌==◌, List, Option, Some, option_and_then, option_map, unwrap_or, is_some, IfSome}
use Rattle.std.specs.Borrow.{Bor}
use Rattle.cal_model.specs.declared.path.Path.{Path}
use Rattle.cal_model.specs.declared.path.Path.TheVariants.{Root, Principal, Object}
use Rattle.cal_model.specs.declared.store.CalendarData.{CalendarData}
use Rattle.cal_model.specs.declared.stored.Stored.{Stored}
use Rattle.cal_model.specs.Access.Privileges.{has_all, read}
use Rattle.cal_model.specs.History.Origins.{Origins}
use Rattle.cal_model.specs.State.ServerState.{Directory, ServerState, user_number, group_number}
use Rattle.cal_model.specs.State.SoundStates.{IsSound}
use Rattle.cal_model.specs.State.StoredData.{data_at}
use Rattle.cal_model.specs.Sight.Views.{Look as Eyes, Sight, view_by, sight_of, whole_sight}
use Rattle.cal_model.specs.Sight.Scenes.{user_in, visible_home, at_both}
use Rattle.cal_model.specs.Users.UsersFile.{Group}
use Rattle.request_checks.specs.declared.looks.Look.{Look}
use Rattle.request_checks.specs.declared.looks.Look.TheVariants.{Own, Whole}

-- reading requests go by what their callers may see, changing ones by all contents
abbrev pub eyes_of : Look → Eyes
eyes_of Own = sight_of
eyes_of Whole = whole_sight

-- the user whose name a path has
abbrev pub user_seen : Directory → Path → Option ℕ
user_seen directory path = option_and_then (user_number directory) (user_in path)

-- whether a path is that of a group's principal
abbrev pub names_group : Directory → Path → Bool
names_group directory (Principal name) = is_some (group_number directory name)
names_group directory other = false

-- whether a user's home is visible
abbrev pub home_shows : Look → Directory → ServerState → ℕ → Option ℕ → Bool
home_shows look directory state who user = is_some (option_and_then (visible_home (view_by (eyes_of look) directory state who) who) user)

-- the home of a principal plays no part
abbrev pub names_home : Path → Bool
names_home Root = false
names_home (Principal user) = false
names_home other = true

-- the calendar of a name in a user's home
abbrev pub calendar_seen : Look → Directory → ServerState → ℕ → Option ℕ → Option (List ℕ) → Option Sight
calendar_seen look directory state who user name = at_both (option_and_then (visible_home (view_by (eyes_of look) directory state who) who) user) name

-- the privileges held on a calendar that is seen
abbrev pub held_on_sight : Option Sight → Option ℕ
held_on_sight sight = option_map (λ (s : Sight). s.held) sight

abbrev pub held_or_nothing : Option ℕ → ℕ
held_or_nothing held = unwrap_or held 0

-- what is lent: the privileges held, with a calendar's data; and an object with its origin
abbrev pub held_of : Option (ℕ × Bor CalendarData) → Option ℕ
held_of calendar = option_map (λ (p : ℕ × Bor CalendarData). p.0) calendar

abbrev pub octets_lent : Option (Bor Stored × ℕ) → Option (List ℕ)
octets_lent object = option_map (λ (p : Bor Stored × ℕ). p.0.now.octets) object

-- whether the objects of a calendar are seen on which these privileges are held
abbrev pub shows_objects : Look → ℕ → Bool
shows_objects Own held = has_all held read
shows_objects Whole held = not (held == 0)

-- what is lent of a calendar is what the state has at its place
abbrev pub IsDataAt : ServerState → Option ℕ → Option (List ℕ) → CalendarData → Type 0
IsDataAt state user name kept = IfSome user (λ owner. IfSome name (λ calendar. data_at state owner calendar ≡ Some kept))

-- and the origin is that of the object at its place
abbrev pub IsOriginAt : Origins → Option ℕ → Path → ℕ → Type 0
IsOriginAt origins (Some owner) (Object user calendar object) origin = origins owner calendar object ≡ Some origin
IsOriginAt origins user path origin = Unit {0}

-- whoever looked a calendar up knows that the state is sound
abbrev pub IsSoundAt : Option ℕ → Option (List ℕ) → Directory → ServerState → Type 0
IsSoundAt (Some owner) (Some name) directory state = IsSound directory state
IsSoundAt user name directory state = Unit {0}

-- the names of all users and of all groups have at most 200 octets
abbrev pub AreShort : Directory → Type 0
AreShort directory = All (λ name. length name ≤ 200) directory.names × All (λ (group : Group). length group.name ≤ 200) directory.groups
