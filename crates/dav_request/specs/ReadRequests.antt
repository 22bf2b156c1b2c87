-- What reading a request answers, against what the request asks for.
use Rattle.std.specs.Prelude.{◌≡◌, length}
use Rattle.cal_model.specs.declared.wire.WireRequest.{WireRequest}
use Rattle.cal_model.specs.Bodies.ContentSizes.{ContentFits}
use Rattle.cal_model.specs.Requests.AskedRequests.{Asked as Answer, asked, refused, asked_of}
use Rattle.cal_model.specs.Requests.BookableRequests.{IsBookable}
use Rattle.cal_model.specs.Users.UsersFile.{Users}
use Rattle.dav_request.specs.declared.requests.Asked.{Asked}
use Rattle.dav_request.specs.declared.requests.Asked.TheVariants.{Request, Refused, NoMemory}

-- the user and the request that are asked for, or the reply that refuses; nothing is said without memory
abbrev pub Says : Answer → Asked → Type 0
Says answer (Request who request) = answer ≡ asked who request
Says answer (Refused reply) = answer ≡ refused reply
Says answer NoMemory = Unit {0}

abbrev pub IsAsked : Users → WireRequest → Asked → Type 0
IsAsked users wire = Says (asked_of users wire)

-- a request can be handed to the book
abbrev pub IsBookableIfAsked : Users → Asked → Type 0
IsBookableIfAsked users (Request who request) = IsBookable users who request
IsBookableIfAsked users (Refused reply) = Unit {0}
IsBookableIfAsked users NoMemory = Unit {0}

-- a request has the size of the body, and its content lists no more than that
abbrev pub FitsIfAsked : WireRequest → Asked → Type 0
FitsIfAsked wire (Request who request) = (request.size ≡ length wire.body) × ContentFits request.size request.content
FitsIfAsked wire (Refused reply) = Unit {0}
FitsIfAsked wire NoMemory = Unit {0}
