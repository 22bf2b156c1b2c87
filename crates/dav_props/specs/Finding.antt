-- The reply to a PROPFIND in pieces, as it is written (RFC 4918, 9.1).
use Rattle.std.specs.Prelude.{◌≡◌, ◌≤◌, ◌<◌, ◌==◌, ℕ, Bool, false, if◌then◌else◌, List, [], ◌++◌, length, map, flat_map, option_to_list, None, unwrap_or}
use Rattle.cal_base.specs.Lists.NameMap.{Named}
use Rattle.cal_model.specs.declared.path.Path.{Path}
use Rattle.cal_model.specs.declared.path.Path.TheVariants as path
use Rattle.cal_model.specs.declared.property.PropName.{PropName}
use Rattle.cal_model.specs.declared.property.Props.{Props}
use Rattle.cal_model.specs.declared.property.Props.TheVariants.{Some as SomeProps}
use Rattle.cal_model.specs.declared.reply.Reply.{Reply}
use Rattle.cal_model.specs.declared.request.Method.TheVariants.{Propfind}
use Rattle.cal_model.specs.Properties.PropertyTable.{Answer, Listing, without_value, answer, row_of, is_in_both, is_in_names}
use Rattle.cal_model.specs.Properties.PropertyReplies.{once, with_status, resource_response}
use Rattle.cal_model.specs.Serving.ReadingReplies.{find_reply, too_long, members_at}
use Rattle.cal_model.specs.Serving.SeenResources.{scene_seen}
use Rattle.cal_model.specs.Sight.Resources.{Resource, Asker, calendar, object}
use Rattle.cal_model.specs.Sight.Views.{Sight, held_on, sight_of}
use Rattle.cal_model.specs.State.ServerState.{Directory, Calendar, Home, ServerState, home_at}
use Rattle.multistatus.specs.Answered.{IsAnswered}
use Rattle.multistatus.specs.declared.responses.Response.{Response}
use Rattle.dav_props.specs.declared.rows.Asked.{Asked}
use Rattle.dav_props.specs.declared.telling.Telling.{Telling}
use Rattle.dav_props.specs.declared.telling.Telling.TheVariants.{Every, There, Names}
use Rattle.dav_props.specs.Rows.{asked_name, property_of}

-- The whole

-- what is answered to what is seen at a path, however long
abbrev pub find_answered : Directory → ServerState → ℕ → Path → Props → Bool → Reply
find_answered directory state who path props deep = find_reply (scene_seen directory state who path) props deep

-- the reply: the answer, or the refusal of one that is too long
abbrev pub found_reply : Directory → ServerState → ℕ → Path → Props → Bool → Reply
found_reply directory state who path props deep =
    unwrap_or (too_long Propfind (find_answered directory state who path props deep)) (find_answered directory state who path props deep)

-- what is written is the whole, or is longer than a limit, as the whole is then
pub record IsUpTo (limit : ℕ) (written whole : List ℕ) : Type 0 where
  pub fits : length written ≤ limit → written ≡ whole
  pub long : limit < length written → limit < length whole

-- The response of a resource

-- who asks, outside of reports
abbrev pub asking : Directory → ℕ → Asker
asking directory who = record { directory = directory; who = who; shown = None }

-- the names that are asked for, each once
abbrev pub names_asked : Props → List PropName
names_asked (SomeProps names) = once names
names_asked other = []

-- the row of the name that is asked for was found
abbrev pub IsFound : Asked → Type 0
IsFound asked = row_of (asked_name asked) ≡ property_of asked.row (asked_name asked)

abbrev pub bare : Answer → Answer
bare a = without_value a.name 200

-- those of some answers that stand in the response
abbrev pub told : Telling → List Answer → List Answer
told Every answers = answers
told There answers = with_status 200 answers
told Names answers = map bare (with_status 200 answers)

-- what is listed where no property is asked for by its name
abbrev pub lists : Telling → Listing → Bool
lists Every listing = false
lists There listing = is_in_both listing
lists Names listing = is_in_names listing

-- behind the answers before, some names were answered
abbrev pub Tells : Asker → Resource → Telling → List PropName → Response → List ℕ → Response → List ℕ → Type 0
Tells asker resource telling names response written next_response next_written =
    (front href : List ℕ) (before : List Answer) → IsAnswered front href before response written
    → IsAnswered front href (before ++ told telling (map (answer asker resource) names)) next_response next_written

-- Members

-- a path with another last name
abbrev pub with_last : Path → List ℕ → Path
with_last (path.Calendar user last) name = path.Calendar user name
with_last (path.Object user within last) name = path.Object user within name
with_last other name = other

abbrev pub calendars_of : ServerState → ℕ → Named Calendar
calendars_of state owner = flat_map (λ (home : Home). home.calendars) (option_to_list (home_at state owner))

-- the response of a calendar of a home, where it is visible
abbrev pub calendar_text : Directory → ℕ → Props → ℕ → List ℕ → List ℕ × Calendar → List ℕ
calendar_text directory who props owner user entry =
    if held_on directory owner who entry.1 == 0 then []
    else resource_response (asking directory who) props (calendar user entry.0 (sight_of directory owner who entry.1))

-- the response of an object of a calendar
abbrev pub object_text : Directory → ℕ → Props → List ℕ → List ℕ → Sight → List ℕ × List ℕ → List ℕ
object_text directory who props user within sight entry = resource_response (asking directory who) props (object user within entry.0 sight entry.1)

-- the responses of the members of what is seen at a path
abbrev pub members_text : Directory → ServerState → ℕ → Props → Path → List ℕ
members_text directory state who props path = flat_map (resource_response (asking directory who) props) (members_at (scene_seen directory state who path) path)
