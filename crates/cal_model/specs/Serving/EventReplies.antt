-- The reply to an event, and the state after it (RFC 9110, 8.8.3 and 15; RFC 4918, 9.2.1).
-- Given: the users, a state and an event. These two are what the server is held to.
use Rattle.std.specs.Prelude.{ℕ, List, map, Option, None}
use Rattle.cal_model.specs.declared.property.PropName.{PropName}
use Rattle.cal_model.specs.declared.property.PropSet.{PropSet}
use Rattle.cal_model.specs.declared.reply.Refusal.{Refusal}
use Rattle.cal_model.specs.declared.reply.Reply.{Reply}
use Rattle.cal_model.specs.declared.request.Content.{Content}
use Rattle.cal_model.specs.declared.request.Content.TheVariants as content
use Rattle.cal_model.specs.declared.request.Event.{Event}
use Rattle.cal_model.specs.declared.request.Request.{Request}
use Rattle.cal_model.specs.State.ServerState.{Directory, ServerState}
use Rattle.cal_model.specs.Replies.BareReplies.{bare_reply}
use Rattle.cal_model.specs.Replies.ReplyForms.{tagged_reply}
use Rattle.cal_model.specs.Properties.PropertyReplies.{setting_answers, settings_reply}
use Rattle.cal_model.specs.Serving.Outcomes.{Outcome, accepted, unchanged, outcome}

-- settings that were all made
abbrev pub all_set : List PropSet → List (PropName × Option Refusal)
all_set sets = map (λ (set : PropSet). (set.name, None)) sets

-- the reply to an accepted change: that to a PUT has the entity tag of what is stored now, and that to settings says that each was made
abbrev pub reply_to_change : ℕ → Request → Content → Reply
reply_to_change status request (content.Put media_ok octets) = tagged_reply status octets
reply_to_change status request (content.Patch sets) = settings_reply request.path (setting_answers (all_set sets) 200)
reply_to_change status request other = bare_reply status

abbrev pub reply_of : Request → Outcome → Reply
reply_of request (accepted status state) = reply_to_change status request request.content
reply_of request (unchanged reply) = reply

abbrev pub state_of : ServerState → Outcome → ServerState
state_of before (accepted status state) = state
state_of before (unchanged reply) = before

-- The reply to an event in a state.
abbrev pub reply_to : Directory → ServerState → Event → Reply
reply_to directory state event = reply_of event.request (outcome directory state event)

-- The state after it.
abbrev pub state_after : Directory → ServerState → Event → ServerState
state_after directory state event = state_of state (outcome directory state event)
