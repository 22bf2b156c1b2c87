-- What was asked so far, while the requests of a session are written and read one after another.
use Rattle.std.specs.Prelude.{◌≡◌, ℕ, List, length}
use Rattle.std.specs.List.{AllZip}
use Rattle.cal_model.specs.declared.request.Request.{Request}
use Rattle.cal_model.specs.declared.wire.WireRequest.{WireRequest}
use Rattle.cal_model.specs.Streams.StreamRequests.{Spells}
use Rattle.cal_model.specs.Users.UsersFile.{Users}
use Rattle.http_wire.specs.declared.wire.Wire.{Wire}
use Rattle.http_wire.specs.Wires.{Stands}
use Rattle.load_requests.specs.MeantRequests.{Means}

-- so many octets were written, and a wire has read them
pub record HasAsked (users : Users) (session : ℕ) (requests : List Request) (octets : List ℕ) (count : ℕ) (wire : Wire) : Type 0 where
  pub wires : List WireRequest
  pub rest : List ℕ
  pub spelled : Spells octets wires rest
  pub stands : Stands rest wire
  pub each : AllZip (Means users session) requests wires
  pub count_is : count ≡ length requests
