-- Each reply can be written: its status has a reason phrase (RFC 9112, 4). And each request that a book can be asked has an answer of its own.
use Rattle.std.specs.Prelude.{◌≡◌, ◌≢◌, ◌<◌, length}
use Rattle.cal_model.specs.declared.reply.Reply.{Reply}
use Rattle.cal_model.specs.declared.request.Event.{Event}
use Rattle.cal_model.specs.declared.wire.WireRequest.{WireRequest}
use Rattle.cal_model.specs.Replies.BareReplies.{bare_reply}
use Rattle.cal_model.specs.Replies.Statuses.{reason}
use Rattle.cal_model.specs.Requests.AskedRequests.{refused, asked_of}
use Rattle.cal_model.specs.Requests.BookableRequests.{IsBookable}
use Rattle.cal_model.specs.Serving.EventReplies.{reply_to}
use Rattle.cal_model.specs.State.ServerState.{Directory, ServerState}
use Rattle.cal_model.specs.Users.UsersFile.{Users}

abbrev pub HasReason : Reply → Type 0
HasReason reply = 0 < length (reason reply.status)

-- The reply to a request that a book can be asked has one, and is in no state that to a method with the content of another one, 501, nor that to a want of memory, 503; and so have that to a request which is
-- refused before any book is asked, which is never 503 either, and that where memory is wanting.
pub record RepliesHaveReasons : Type 0 where
  pub answered : (users : Users) (directory : Directory) (state : ServerState) (event : Event) → IsBookable users event.who event.request → HasReason (reply_to directory state event)
  pub known : (users : Users) (directory : Directory) (state : ServerState) (event : Event) → IsBookable users event.who event.request → (reply_to directory state event).status ≢ 501
  pub no_want : (users : Users) (directory : Directory) (state : ServerState) (event : Event) → IsBookable users event.who event.request → (reply_to directory state event).status ≢ 503
  pub refused_before : (users : Users) (wire : WireRequest) (reply : Reply) → asked_of users wire ≡ refused reply → HasReason reply
  pub no_want_before : (users : Users) (wire : WireRequest) (reply : Reply) → asked_of users wire ≡ refused reply → reply.status ≢ 503
  pub busy : HasReason (bare_reply 503)
