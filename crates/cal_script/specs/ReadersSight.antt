-- What a user may learn from a script's replies: no more than what the states in which they are given show the user (RFC 3744, 3; RFC 4791, 6.1.1).
-- Given: the users, two states, and a request as it came. When two states look alike to a user says `Sight.LookingAlike`; what may be answered says `IsAnswer` of `Transcripts.Transcript`, of which each printed reply is one.
use Rattle.std.specs.Prelude.{◌≡◌, ℕ, true}
use Rattle.cal_model.specs.declared.request.Request.{Request}
use Rattle.cal_model.specs.declared.wire.WireRequest.{WireRequest}
use Rattle.cal_model.specs.Requests.AskedRequests.{asked, asked_of}
use Rattle.cal_model.specs.Serving.Outcomes.{is_reading}
use Rattle.cal_model.specs.Sight.LookingAlike.{LookAlike}
use Rattle.cal_model.specs.State.ServerState.{ServerState, directory_of}
use Rattle.cal_model.specs.Transcripts.Transcript.{Answer, IsAnswer}
use Rattle.cal_model.specs.Users.UsersFile.{Users}

-- What may be answered to a request that only reads may be answered to it in each state that looks alike to who asks, and leaves that state as it is.
abbrev pub ReadersSeeAlike : Type 0
ReadersSeeAlike =
    (users : Users) (state other : ServerState) (connection moment who : ℕ) (wire : WireRequest) (request : Request) (given : Answer)
    → asked_of users wire ≡ asked who request → is_reading request.method ≡ true → LookAlike (directory_of users) state other who
    → IsAnswer users state connection moment wire given → IsAnswer users other connection moment wire (record { reply = given.reply; server = other })
