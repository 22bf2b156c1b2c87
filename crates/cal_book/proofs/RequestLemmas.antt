-- What is told of a request, once it is answered.
use Rattle.std.proofs.Common.{◌≢◌, ℕ}
use Rattle.cal_model.specs.declared.request.Event.{Event}
use Rattle.cal_model.specs.Requests.BookableRequests.{IsBookable}
use Rattle.cal_model.specs.Serving.EventReplies.{reply_to}
use Rattle.cal_model.specs.State.ServerState.{Directory, ServerState}
use Rattle.cal_model.specs.Users.UsersFile.{Users}
use Rattle.cal_model.proofs.Serving.StatusLaws.{no_reply_wants_memory}
use Rattle.cal_book.proofs.EventLemmas.{suits-no_want}

-- no reply of the definitions is 503
pub other-status : (users : Users) (who : ℕ) (directory : Directory) (state : ServerState) (event : Event) → IsBookable users who event.request → (reply_to directory state event).status ≢ 503
other-status users who directory state event bookable = no_reply_wants_memory directory state event (suits-no_want event.request.method event.request.content bookable.suits)
