-- What a request asks for, by whose it is; and what holds of each request that is asked for.
use Rattle.std.proofs.Common.{◌≡◌, ◌≤◌, ℕ, length, Option, Some, None, ap}
use Rattle.cal_model.specs.declared.wire.WireRequest.{WireRequest}
use Rattle.cal_model.specs.Replies.BareReplies.{bare_reply}
use Rattle.cal_model.specs.Requests.AskedRequests.{Asked as Answer, refused, asked_with, asked_of}
use Rattle.cal_model.specs.Streams.WireLimits.{body_limit}
use Rattle.cal_model.specs.Users.Credentials.{authenticated}
use Rattle.cal_model.specs.Users.UsersFile.{Users}
use Rattle.cal_model.proofs.Requests.BookableLaws.{requests_are_bookable, requests_fit}
use Rattle.dav_request.specs.declared.requests.Asked.{Asked}
use Rattle.dav_request.specs.declared.requests.Asked.TheVariants.{Request, Refused, NoMemory}
use Rattle.dav_request.specs.ReadRequests.{IsAsked, IsBookableIfAsked, FitsIfAsked}

-- what is asked by a user, if there is one
abbrev asked_by_found : Users → WireRequest → Option ℕ → Answer
asked_by_found users wire None = refused (bare_reply 401)
asked_by_found users wire (Some who) = asked_with users wire who

pub asked_by_user : (users : Users) (wire : WireRequest) (who : ℕ) → authenticated users wire.authorization ≡ Some who → asked_of users wire ≡ asked_with users wire who
unfolding asked_of
asked_by_user users wire who is = ap (asked_by_found users wire) is

pub asked_by_nobody : (users : Users) (wire : WireRequest) → authenticated users wire.authorization ≡ None → asked_of users wire ≡ refused (bare_reply 401)
unfolding asked_of
asked_by_nobody users wire is = ap (asked_by_found users wire) is

pub asked-bookable : (users : Users) (wire : WireRequest) (answer : Asked) → length wire.body ≤ body_limit → IsAsked users wire answer → IsBookableIfAsked users answer
asked-bookable users wire (Request who request) short is = requests_are_bookable users wire who request short is
asked-bookable users wire (Refused reply) short is = tt
asked-bookable users wire NoMemory short is = tt

pub asked-fits : (users : Users) (wire : WireRequest) (answer : Asked) → IsAsked users wire answer → FitsIfAsked wire answer
asked-fits users wire (Request who request) is = requests_fit users wire who request is
asked-fits users wire (Refused reply) is = tt
asked-fits users wire NoMemory is = tt
