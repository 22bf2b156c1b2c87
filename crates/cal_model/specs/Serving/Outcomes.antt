-- What an event does: it is accepted and changes the state, or it leaves the state as it is and has a reply (RFC 9110, 9.3 and 15.3; RFC 4918, 9; RFC 4791, 5.3).
-- Given: the users, a state and an event. A request that only reads is answered from what its caller sees, and from nothing else. A lack of memory is no part of this: 503 never stands here.
use Rattle.std.specs.Prelude.{ℕ, Bool, true, false, if◌then◌else◌, List, ◌++◌, is_some, Option, Some, None}
use Rattle.cal_model.specs.declared.reply.Reply.{Reply}
use Rattle.cal_model.specs.declared.request.Event.{Event}
use Rattle.cal_model.specs.declared.request.Method.{Method}
use Rattle.cal_model.specs.declared.request.Method.TheVariants.{Options, Get, Head, Put, Propfind, Proppatch, Report, Mkcalendar, Acl}
use Rattle.cal_model.specs.declared.request.Request.{Request}
use Rattle.cal_model.specs.Objects.ObjectReading.{first_there}
use Rattle.cal_model.specs.State.ServerState.{Directory, ServerState}
use Rattle.cal_model.specs.Sight.Views.{Look, sight_of, whole_sight, view_by}
use Rattle.cal_model.specs.State.Changes.{Change, effect, change_of}
use Rattle.cal_model.specs.Sight.Scenes.{Scene, scene_at}
use Rattle.cal_model.specs.Refusals.SharedRefusals.{shared_rows}
use Rattle.cal_model.specs.Replies.ReplyForms.{no_request}
use Rattle.cal_model.specs.Serving.ReadingReplies.{reading_reply}
use Rattle.cal_model.specs.Refusals.ChangeRefusals.{own_rows}

-- 201 for what is new (RFC 9110, 9.3.4; RFC 4791, 5.3.1), 207 for settings, 200 for grants, 204 for the rest
abbrev pub accepted_status : Scene → Method → ℕ
accepted_status scene Put = if is_some scene.object then 204 else 201
accepted_status scene Mkcalendar = 201
accepted_status scene Proppatch = 207
accepted_status scene Acl = 200
accepted_status scene other = 204

-- Outcomes

-- accepted: the status, and the state after the change; unchanged: the reply to a request that only reads or is refused
pub data Outcome : Type 0 where
  accepted : ℕ → ServerState → Outcome
  unchanged : Reply → Outcome

abbrev pub is_reading : Method → Bool
is_reading Options = true
is_reading Get = true
is_reading Head = true
is_reading Propfind = true
is_reading Report = true
is_reading other = false

-- the event in the eyes of its caller
abbrev pub scene_by : Look → Directory → ServerState → Event → Scene
scene_by look directory state event = scene_at directory (view_by look directory state event.who) event.who event.request.path

abbrev pub reading_outcome : Directory → ServerState → Event → Outcome
reading_outcome directory state event = unchanged (reading_reply (scene_by sight_of directory state event) event.moment event.request)

-- a change that no row refuses is made
abbrev pub changed : ServerState → Scene → Method → Option Change → Outcome
changed state scene method None = unchanged no_request
changed state scene method (Some change) = accepted (accepted_status scene method) (effect change state)

abbrev pub unless_refused : Option Reply → Outcome → Outcome
unless_refused None made = made
unless_refused (Some reply) made = unchanged reply

abbrev pub rows_of_change : ServerState → Scene → Request → List (Option Reply)
rows_of_change state scene request = shared_rows scene request ++ own_rows state scene request request.method

abbrev pub changing_outcome : Directory → ServerState → Event → Outcome
changing_outcome directory state event =
    let scene = scene_by whole_sight directory state event in
    unless_refused (first_there (rows_of_change state scene event.request)) (changed state scene event.request.method (change_of directory event.request))

abbrev pub outcome_where : Bool → Directory → ServerState → Event → Outcome
outcome_where true directory state event = reading_outcome directory state event
outcome_where false directory state event = changing_outcome directory state event

-- What an event does in a state.
unfoldable pub outcome : Directory → ServerState → Event → Outcome
outcome directory state event = outcome_where (is_reading event.request.method) directory state event
