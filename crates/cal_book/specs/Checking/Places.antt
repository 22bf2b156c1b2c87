-- The calendar that is there, and the place of an object in it (RFC 4791, 4.1 and 4.2).
-- Given: the users, a state and what stands at a path.
use Rattle.std.specs.Prelude.{◌≡◌, ℕ, Bool, List, Some, is_some}
use Rattle.cal_base.specs.Lists.NameMap.{IsInOrder, value_at}
use Rattle.cal_model.specs.declared.path.Path.{Path}
use Rattle.cal_model.specs.declared.path.Path.TheVariants.{Object}
use Rattle.cal_model.specs.declared.request.Method.TheVariants.{Put}
use Rattle.cal_model.specs.Access.Privileges.{has_all, read}
use Rattle.cal_model.specs.Serving.Outcomes.{accepted_status}
use Rattle.cal_model.specs.Sight.Scenes.{Scene as Sighted, calendar_in}
use Rattle.cal_model.specs.Sight.Views.{held_on, whole_sight}
use Rattle.cal_model.specs.State.ServerState.{Directory, Calendar, Home, ServerState, home_at, calendar_at}
use Rattle.cal_model.specs.State.SoundStates.{IsSoundCalendar}
use Rattle.cal_model.specs.State.StoredData.{data_of}
use Rattle.cal_book.specs.declared.changes.places.Place.{Place}
use Rattle.cal_book.specs.declared.changes.places.Target.{Target}

-- a calendar that is there is the one at the path
pub record IsPlace (directory : Directory) (state : ServerState) (scene : Sighted) (place : Place) : Type 0 where
  pub user_is : scene.user ≡ Some place.home
  pub named : calendar_in scene.path ≡ Some place.calendar.now
  pub home : Home
  pub home_is : home_at state place.home ≡ Some home
  pub within : Calendar
  pub there : calendar_at state place.home place.calendar.now ≡ Some within
  pub seen : scene.calendar ≡ Some (whole_sight directory place.home scene.who within)
  pub held_is : held_on directory place.home scene.who within ≡ place.held
  pub data_is : data_of place.home within ≡ place.data.now
  pub sound : IsSoundCalendar directory within

-- an object is put into this calendar
pub record IsInto (state : ServerState) (target : Target) (within : Calendar) : Type 0 where
  pub there : calendar_at state target.place.home target.place.calendar.now ≡ Some within
  pub in_order : IsInOrder within.objects
  pub object_is : target.is_there ≡ is_some (value_at within.objects target.object.now)

-- the place of an object is the one at the path
pub record IsTarget (directory : Directory) (state : ServerState) (scene : Sighted) (target : Target) : Type 0 where
  pub place : IsPlace directory state scene target.place
  pub path_is : scene.path ≡ Object target.user.now target.place.calendar.now target.object.now
  pub into : IsInto state target place.within
  pub status_is : target.status ≡ accepted_status scene Put

-- whether the caller may read the calendar
abbrev pub may_read : Target → Bool
may_read target = has_all target.place.held read

-- the path of an object in the same calendar
abbrev pub path_beside : Target → List ℕ → Path
path_beside target name = Object target.user.now target.place.calendar.now name
