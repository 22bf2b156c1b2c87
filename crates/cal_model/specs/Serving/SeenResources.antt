-- What a user sees at a path of a state, and what is said to that user of a property there (RFC 4918, 4 and 9.1; RFC 3744, 3).
-- Given: the users, a state, the number of one user, and a path. A store shows the state; who walks it, or asks for properties, cites these words.
use Rattle.std.specs.Prelude.{ℕ, List, [], ◌∷◌, Option, codes}
use Rattle.cal_model.specs.declared.path.Path.{Path}
use Rattle.cal_model.specs.declared.property.PropName.{PropName}
use Rattle.cal_model.specs.State.ServerState.{Directory, ServerState}
use Rattle.cal_model.specs.Sight.Views.{seen_by}
use Rattle.cal_model.specs.Sight.Scenes.{Scene, scene_at}
use Rattle.cal_model.specs.Sight.Resources.{Resource, Asker}
use Rattle.cal_model.specs.Properties.PropertyTable.{Answer, answer, without_value, in_caldav}
use Rattle.cal_model.specs.Serving.ReadingReplies.{resources_at}

-- what stands at each part of a path
abbrev pub scene_seen : Directory → ServerState → ℕ → Path → Scene
scene_seen directory state who path = scene_at directory (seen_by directory state who) who path

-- the resource at a path: one, or none where the calendar or the object is not there, or is hidden
abbrev pub resources_seen : Directory → ServerState → ℕ → Path → List Resource
resources_seen directory state who path = resources_at (scene_seen directory state who path) path

-- a property of the resource that is there; a property of nothing is not there
abbrev pub answer_at : Asker → List Resource → PropName → Answer
answer_at asker [] name = without_value name 404
answer_at asker (resource ∷ more) name = answer asker resource name

-- What is said to a user of a property of what is seen at a path, given what a report shows of an object's octets.
abbrev pub seen_answer : Directory → ServerState → ℕ → Option (List ℕ → List ℕ) → Path → PropName → Answer
seen_answer directory state who shown path name =
    answer_at (record { directory = directory; who = who; shown = shown }) (resources_seen directory state who path) name

-- the one property that a report's own question decides (RFC 4791, 9.6)
abbrev pub calendar_data : PropName
calendar_data = in_caldav (codes "calendar-data")
