-- What is known of a request that changes something, once no row refuses it that all methods share.
-- Given: the users, a state, a scene in memory and the request.
use Rattle.std.specs.Prelude.{◌≡◌, true, None, IsSome, IfSome}
use Rattle.cal_model.specs.declared.path.Path.{Path}
use Rattle.cal_model.specs.declared.path.Path.TheVariants.{Calendar, Object}
use Rattle.cal_model.specs.declared.request.Request.{Request}
use Rattle.cal_model.specs.Objects.ObjectReading.{first_there}
use Rattle.cal_model.specs.Refusals.SharedRefusals.{shared_rows}
use Rattle.cal_model.specs.Sight.Scenes.{Scene as Sighted, scene_at, calendar_in}
use Rattle.cal_model.specs.Sight.Views.{whole_sight, view_by}
use Rattle.cal_model.specs.State.ServerState.{Directory, ServerState}
use Rattle.request_checks.specs.declared.scenes.Scene.{Scene}
use Rattle.request_checks.specs.Scenes.{IsScene}
use Rattle.request_checks.specs.Sightings.{IsDataAt, IsSoundAt}
use Rattle.cal_book.specs.Checking.Checks.{IsAskedOf}

-- what stands at a scene's path, with all its contents
abbrev pub sighted : Directory → ServerState → Scene → Sighted
sighted directory state shown = scene_at directory (view_by whole_sight directory state shown.who) shown.who shown.path.now

pub record IsPassed (directory : Directory) (state : ServerState) (shown : Scene) (request : Request) : Type 0 where
  pub path_is : shown.path.now ≡ request.path
  pub scene : IsScene shown (sighted directory state shown)
  pub passes : first_there (shared_rows (sighted directory state shown) request) ≡ None
  pub known : shown.home ≡ true → IsSome shown.user
  pub kept : IfSome shown.calendar (λ p. IsDataAt state shown.user (calendar_in shown.path.now) p.1.now)
  pub sound : IsSoundAt shown.user (calendar_in shown.path.now) directory state
  pub asked : IsAskedOf directory shown.who request

-- the user and the calendar of a scene are there
pub record IsThere (shown : Scene) : Type 0 where
  pub user : IsSome shown.user
  pub calendar : IsSome shown.calendar
  pub named : IsSome (calendar_in shown.path.now)

-- a path of an object
abbrev pub IsOfObject : Path → Type 0
IsOfObject (Object user calendar object) = Unit {0}
IsOfObject other = ⊥

-- a path of a calendar
abbrev pub IsOfCalendar : Path → Type 0
IsOfCalendar (Calendar user calendar) = Unit {0}
IsOfCalendar other = ⊥
