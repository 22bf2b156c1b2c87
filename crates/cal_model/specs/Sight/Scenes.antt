-- What a request is about, as far as its caller sees it: what stands at each part of its path (RFC 4918, 5; RFC 4791, 4.2).
-- Given: a view of a state, who asks, and a path. Gives: the user, the home, the calendar and the object that are there and visible.
use Rattle.std.specs.Prelude.{ℕ, ◌||◌, ◌==◌, not, if◌then◌else◌, List, slice_get, Option, Some, None, option_and_then, option_map}
use Rattle.std.specs.Option.{option_map_or}
use Rattle.cal_base.specs.Lists.NameMap.{Named, value_at}
use Rattle.cal_model.specs.declared.path.Path.{Path}
use Rattle.cal_model.specs.declared.path.Path.TheVariants.{Root, Principal, Home, Calendar, Object}
use Rattle.cal_model.specs.Words.Lists.{is_empty}
use Rattle.cal_model.specs.State.ServerState.{Directory, user_number}
use Rattle.cal_model.specs.Sight.Views.{Contents, Sight, View}

-- The names in a path

abbrev pub user_in : Path → Option (List ℕ)
user_in Root = None
user_in (Principal user) = Some user
user_in (Home user) = Some user
user_in (Calendar user calendar) = Some user
user_in (Object user calendar object) = Some user

abbrev pub calendar_in : Path → Option (List ℕ)
calendar_in (Calendar user calendar) = Some calendar
calendar_in (Object user calendar object) = Some calendar
calendar_in other = None

abbrev pub object_in : Path → Option (List ℕ)
object_in (Object user calendar object) = Some object
object_in other = None

-- what stands at each part of a path, where it is there and visible
pub record Scene : Type 0 where
  pub directory : Directory
  pub who : ℕ
  pub path : Path
  pub user : Option ℕ
  pub home : Option (Named Sight)
  pub calendar : Option Sight
  pub object : Option (List ℕ)

-- a home is visible to its owner, and to others with one of its calendars
abbrev pub visible_home : View → ℕ → ℕ → Option (Named Sight)
visible_home view who user =
    option_and_then (λ (calendars : Named Sight). if (user == who) || not (is_empty calendars) then Some calendars else None) (slice_get view user)

-- the value at a name in a map, where both are there
abbrev pub at_both : {X : Type 0} → Option (Named X) → Option (List ℕ) → Option X
at_both named name = option_and_then (λ map. option_and_then (value_at map) name) named

abbrev pub octets_seen : Option Sight → Option (Named (List ℕ))
octets_seen calendar = option_map (λ (contents : Contents). contents.objects) (option_and_then (λ (sight : Sight). sight.contents) calendar)

unfoldable pub scene_at : Directory → View → ℕ → Path → Scene
scene_at directory view who path =
    let user = option_and_then (user_number directory) (user_in path) in
    let home = option_and_then (visible_home view who) user in
    let calendar = at_both home (calendar_in path) in
    record { directory = directory; who = who; path = path; user = user; home = home; calendar = calendar; object = at_both (octets_seen calendar) (object_in path) }

-- the privileges held on the calendar
abbrev pub held_in : Scene → ℕ
held_in scene = option_map_or (λ (sight : Sight). sight.held) scene.calendar 0
