-- The changes that requests make, what each does to a state, and what it costs (RFC 4918, 9; RFC 4791, 5.3; RFC 3744, 8.1). A change is what a journal keeps.
-- Given: a change and a state, or a request. Gives: the state after the change, or the change that the request asks for. Whether it is allowed plays no part here.
use Rattle.std.specs.Prelude.{ℕ, List, Option, Some, None, option_and_then, length}
use Rattle.cal_base.specs.Lists.NameMap.{with_value, without}
use Rattle.cal_model.specs.declared.path.Path.{Path}
use Rattle.cal_model.specs.declared.path.Path.TheVariants as path
use Rattle.cal_model.specs.declared.privilege.Grant.{Grant}
use Rattle.cal_model.specs.declared.property.PropSet.{PropSet}
use Rattle.cal_model.specs.declared.request.Content.{Content}
use Rattle.cal_model.specs.declared.request.Content.TheVariants as content
use Rattle.cal_model.specs.declared.request.Method.{Method}
use Rattle.cal_model.specs.declared.request.Method.TheVariants as method
use Rattle.cal_model.specs.declared.request.Request.{Request}
use Rattle.cal_model.specs.State.ServerState.{Directory, Calendar, Home, ServerState, user_number, with_home, with_calendar, charged}
use Rattle.cal_model.specs.Properties.Settings.{set_on, made_by}

-- a change in a home, given by its user's number; `size` is the length of the request's body
pub data Change : Type 0 where
  put : (home : ℕ) (calendar object octets : List ℕ) → Change
  delete_object : (home : ℕ) (calendar object : List ℕ) → Change
  delete_calendar : (home : ℕ) (calendar : List ℕ) → Change
  make : (home : ℕ) (calendar : List ℕ) (sets : List PropSet) (size : ℕ) → Change
  patch : (home : ℕ) (calendar : List ℕ) (sets : List PropSet) (size : ℕ) → Change
  acl : (home : ℕ) (calendar : List ℕ) (grants : List Grant) (size : ℕ) → Change

-- Effects

abbrev pub with_octets : List ℕ → List ℕ → Calendar → Calendar
with_octets name octets calendar = record calendar { objects = with_value calendar.objects name octets }

abbrev pub without_octets : List ℕ → Calendar → Calendar
without_octets name calendar = record calendar { objects = without calendar.objects name }

abbrev pub with_grants : List Grant → Calendar → Calendar
with_grants grants calendar = record calendar { grants = grants }

abbrev pub without_calendar : List ℕ → Home → Home
without_calendar name home = record home { calendars = without home.calendars name }

abbrev pub with_new_calendar : List ℕ → Calendar → Home → Home
with_new_calendar name calendar home = record home { calendars = with_value home.calendars name calendar }

-- The state after a change. Deletions cost nothing; all else costs the home the body of its request and 256 octets (`change_cost`).
unfoldable pub effect : Change → ServerState → ServerState
effect (put home calendar object octets) state =
    with_home state home (λ h. charged (length octets) (with_calendar calendar (with_octets object octets) h))
effect (delete_object home calendar object) state = with_home state home (with_calendar calendar (without_octets object))
effect (delete_calendar home calendar) state = with_home state home (without_calendar calendar)
effect (make home calendar sets size) state = with_home state home (λ h. charged size (with_new_calendar calendar (made_by sets) h))
effect (patch home calendar sets size) state = with_home state home (λ h. charged size (with_calendar calendar (set_on sets) h))
effect (acl home calendar grants size) state = with_home state home (λ h. charged size (with_calendar calendar (with_grants grants) h))

-- What a request asks for

abbrev pub change_of_object : Method → Content → ℕ → List ℕ → List ℕ → Option Change
change_of_object method.Put (content.Put media_ok octets) home calendar object = Some (put home calendar object octets)
change_of_object method.Delete any home calendar object = Some (delete_object home calendar object)
change_of_object other any home calendar object = None

abbrev pub change_of_calendar : Method → Content → ℕ → List ℕ → ℕ → Option Change
change_of_calendar method.Delete any home calendar size = Some (delete_calendar home calendar)
change_of_calendar method.Mkcalendar (content.Make sets) home calendar size = Some (make home calendar sets size)
change_of_calendar method.Proppatch (content.Patch sets) home calendar size = Some (patch home calendar sets size)
change_of_calendar method.Acl (content.Acl grants) home calendar size = Some (acl home calendar grants size)
change_of_calendar other any home calendar size = None

abbrev pub change_at : Directory → Request → Path → Option Change
change_at directory request (path.Object user calendar object) =
    option_and_then (λ home. change_of_object request.method request.content home calendar object) (user_number directory user)
change_at directory request (path.Calendar user calendar) =
    option_and_then (λ home. change_of_calendar request.method request.content home calendar request.size) (user_number directory user)
change_at directory request other = None

-- the change that a request asks for, if it asks for one
unfoldable pub change_of : Directory → Request → Option Change
change_of directory request = change_at directory request request.path
