-- What a scene in memory stands for: that of the definitions, part by part, as far as refusals go by it.
use Rattle.std.specs.Prelude.{◌≡◌, ℕ, true, ◌&&◌, ◌⊎◌, List, [], map, Some, None, is_some, IsSome, option_map, option_to_list, if◌then◌else◌}
use Rattle.std.specs.Borrow.{Bor}
use Rattle.cal_model.specs.declared.path.Path.{Path}
use Rattle.cal_model.specs.declared.path.Path.TheVariants.{Root, Principal}
use Rattle.cal_model.specs.declared.store.CalendarData.{CalendarData}
use Rattle.cal_model.specs.Sight.Scenes.{Scene as Sighted, user_in}
use Rattle.cal_model.specs.Sight.Views.{Sight}
use Rattle.request_checks.specs.declared.scenes.Scene.{Scene}
use Rattle.cal_model.specs.Users.UsersFile.{Group}
use Rattle.request_checks.specs.Sightings.{names_group, names_home, octets_lent}

pub record IsScene (shown : Scene) (scene : Sighted) : Type 0 where
  pub who : shown.who ≡ scene.who
  pub path : shown.path.now ≡ scene.path
  pub user : shown.user ≡ scene.user
  pub group : shown.group ≡ names_group scene.directory scene.path
  -- the home of a principal plays no part
  pub home : shown.home ≡ (names_home scene.path && is_some scene.home)
  -- with the privileges that are held on it
  pub calendar : option_map (λ (p : ℕ × Bor CalendarData). p.0) shown.calendar ≡ option_map (λ (sight : Sight). sight.held) scene.calendar
  pub object : octets_lent shown.object ≡ scene.object

-- The least that a scene in memory can stand for: nothing is in it that refusals do not go by.

abbrev pub sight_held : ℕ → Sight
sight_held held = record { held = held; contents = None; grants = None; busy = None }

-- of the groups, the one whose principal's path it is
abbrev pub least_groups : Scene → List Group
least_groups shown = if shown.group then map (λ name. record { name = name; members = [] }) (option_to_list (user_in shown.path.now)) else []

abbrev pub least_of : Scene → Sighted
least_of shown = record {
  directory = record { names = []; groups = least_groups shown };
  who = shown.who;
  path = shown.path.now;
  user = shown.user;
  home = if shown.home then Some [] else None;
  calendar = option_map (λ (p : ℕ × Bor CalendarData). sight_held p.0) shown.calendar;
  object = octets_lent shown.object;
}

-- what a path names is there, down to the home: so its user, or its group, is known
abbrev pub IsFoundAt : Scene → Path → Type 0
IsFoundAt shown Root = Unit {0}
IsFoundAt shown (Principal name) = IsSome shown.user ⊎ (shown.group ≡ true)
IsFoundAt shown other = shown.home ≡ true
