-- What octets ask for, as a session reads them.
-- Given: the users, and the number of a session, which is that of its user.
use Rattle.std.specs.Prelude.{◌≡◌, ℕ, false, List}
use Rattle.std.specs.List.{AllZip}
use Rattle.cal_model.specs.declared.request.Request.{Request}
use Rattle.cal_model.specs.declared.wire.WireRequest.{WireRequest}
use Rattle.cal_model.specs.Replies.WireReplies.{is_head}
use Rattle.cal_model.specs.Requests.AskedRequests.{asked, asked_of}
use Rattle.cal_model.specs.Streams.StreamRequests.{ends_idle, IsStream}
use Rattle.cal_model.specs.Users.UsersFile.{Users}

-- a request as it came asks for what is meant, behind its reply the connection goes on, and the reply has a body
pub record Means (users : Users) (session : ℕ) (request : Request) (wire : WireRequest) : Type 0 where
  pub asks : asked_of users wire ≡ asked session request
  pub goes_on : wire.close ≡ false
  pub has_body : is_head wire ≡ false

-- some octets are such requests, one after another, and no others
pub record Spell (users : Users) (session : ℕ) (requests : List Request) (octets : List ℕ) : Type 0 where
  pub wires : List WireRequest
  pub rest : List ℕ
  pub reading : IsStream octets wires rest ends_idle
  pub each : AllZip (Means users session) requests wires
