-- What the book may rely on in a request, and the law that each request that is asked for has it.
-- Given: the users, the number of one, and a request.
use Rattle.std.specs.Prelude.{◌≡◌, ℕ, ◌<◌, ◌≤◌, length, IsTrue}
use Rattle.cal_model.specs.declared.request.Request.{Request}
use Rattle.cal_model.specs.declared.wire.WireRequest.{WireRequest}
use Rattle.cal_model.specs.Bodies.ContentSizes.{ContentFits}
use Rattle.cal_model.specs.Paths.TargetPaths.{is_path}
use Rattle.cal_model.specs.Requests.AskedRequests.{asked, asked_of}
use Rattle.cal_model.specs.Requests.ContentBounds.{GrantsAmong, SizeIsTold, ZoneIsShort, PropertiesAreFew}
use Rattle.cal_model.specs.Requests.MethodContents.{Suits}
use Rattle.cal_model.specs.Requests.Methods.{has_method}
use Rattle.cal_model.specs.Streams.WireLimits.{body_limit}
use Rattle.cal_model.specs.Users.UsersFile.{Users}

-- The conditions of `Book::request` on a request and on who asks, the moment aside.
pub record IsBookable (users : Users) (who : ℕ) (request : Request) : Type 0 where
  pub user : who < length users.people
  pub grants : GrantsAmong users request.content
  pub size : SizeIsTold request.size request.content
  pub zone : ZoneIsShort request.content
  pub few : PropertiesAreFew request.content
  pub suits : Suits request.method request.content
  pub allowed : IsTrue (has_method request.path request.method)
  pub path : IsTrue (is_path request.path)

-- What a wire request asks for can be booked.
abbrev pub RequestsAreBookable : Type 0
RequestsAreBookable =
    (users : Users) (wire : WireRequest) (who : ℕ) (request : Request) → length wire.body ≤ body_limit →
    asked_of users wire ≡ asked who request → IsBookable users who request

-- Its size is the length of the body, and its content lists no more than that.
abbrev pub RequestsFit : Type 0
RequestsFit =
    (users : Users) (wire : WireRequest) (who : ℕ) (request : Request) → asked_of users wire ≡ asked who request →
    (request.size ≡ length wire.body) × ContentFits request.size request.content
