-- A connection that was closed behind as many answers as there were requests has answered each of them.
use Rattle.std.proofs.Common.{◌≡◌, ◌≢◌, ℕ, suc, ◌+◌, ◌<◌, ◌≤◌, false, List, [], ◌∷◌, ◌++◌, length, refl, sym, ap, ◌∙◌, subst, arith, length-append}
use Rattle.std.specs.Prelude.{nat_le, pos}
use Rattle.std.specs.List.{AllZip, AllByRecursion}
use Rattle.std.proofs.lemmas.List.{nil_from_length, append-nil, take_all, length-map}
use Rattle.cal_model.specs.declared.request.Request.{Request}
use Rattle.cal_model.specs.declared.wire.WireRequest.{WireRequest}
use Rattle.cal_model.specs.Load.LoadRequests.{load_moment}
use Rattle.cal_model.specs.Load.LoadSummary.{all_octets}
use Rattle.cal_model.specs.Replies.ReplyOctets.{reply_octets}
use Rattle.cal_model.specs.Replies.WireReplies.{answer_octets}
use Rattle.cal_model.specs.Streams.StreamRequests.{Ending, ends_idle, IsStream, up_to_close, served, closes_after}
use Rattle.cal_model.specs.Streams.WireLimits.{request_limit}
use Rattle.cal_model.specs.Users.UsersFile.{Users}
use Rattle.cal_model.proofs.Streams.ReadingLaws.{streams_are_read, readings_agree, streams_grow}
use Rattle.cal_session.specs.Connections.{requests_of, AnsweredAll, replies_from}
use Rattle.cal_session.specs.Turns.{Answer}
use Rattle.load_requests.specs.MeantRequests.{Means, Spell}
use Rattle.caldav_server.specs.LoadSessions.{Answers, replies_in}

-- the requests of a front of some octets are the first of theirs
front-wires : (stream left : List ℕ) (requests wires : List WireRequest) (rest behind : List ℕ) (ending end : Ending)
    → IsStream stream requests rest ending → IsStream (stream ++ left) wires behind end → (later : List WireRequest) × (wires ≡ requests ++ later)
front-wires stream left requests wires rest behind ending end front all =
    let more = streams_are_read (rest ++ left) in
    let grown = streams_grow stream left requests more.0 rest more.1 front.spelled more.3.spelled in
    (more.0, (readings_agree (stream ++ left) wires (requests ++ more.0) behind more.1 end more.2 all (record { spelled = grown; ended = more.3.ended })).0)

-- where none closes all are served, as far as a connection goes
abbrev GoOn : List WireRequest → Type 0
GoOn wires = AllByRecursion (λ (wire : WireRequest). wire.close ≡ false) wires

up_to_close-going : (wires : List WireRequest) → GoOn wires → up_to_close wires ≡ wires
up_to_close-going [] going = refl
up_to_close-going (wire ∷ wires) going = rw (going.0, up_to_close-going wires going.1) refl

go_on-front : (front behind : List WireRequest) → GoOn (front ++ behind) → GoOn front
go_on-front [] behind going = tt
go_on-front (wire ∷ front) behind going = (going.0, go_on-front front behind going.1)

served-going : (wires : List WireRequest) → GoOn wires → length wires ≤ request_limit → served wires ≡ wires
served-going wires going few = ap up_to_close (take_all request_limit wires few) ∙ up_to_close-going wires going

-- all that are meant go on
go_on-meant : (users : Users) (session : ℕ) (requests : List Request) (wires : List WireRequest) → AllZip (Means users session) requests wires → GoOn wires
go_on-meant users session [] [] each = tt
go_on-meant users session [] (wire ∷ wires) each = absurd each
go_on-meant users session (request ∷ requests) [] each = absurd each
go_on-meant users session (request ∷ requests) (wire ∷ wires) each = (each.0.goes_on, go_on-meant users session requests wires each.1)

length-meant : (users : Users) (session : ℕ) (requests : List Request) (wires : List WireRequest) → AllZip (Means users session) requests wires → length wires ≡ length requests
length-meant users session [] [] each = refl
length-meant users session [] (wire ∷ wires) each = absurd each
length-meant users session (request ∷ requests) [] each = absurd each
length-meant users session (request ∷ requests) (wire ∷ wires) each = ap suc (length-meant users session requests wires each.1)

-- as many answers as requests are answers to all of them
pub all-answered : (users : Users) (session : ℕ) (requests : List Request) (octets stream left : List ℕ) (answers : List Answer) (ending : Ending)
    → Spell users session requests octets → octets ≡ stream ++ left → AnsweredAll stream answers ending
    → length answers ≡ length requests → length requests ≤ request_limit → AllZip (Means users session) requests (requests_of answers)
all-answered users session requests octets stream left answers ending spell parts done many few =
    let prefix = front-wires stream left done.requests spell.wires done.rest spell.rest ending ends_idle done.reading (subst (λ o. IsStream o spell.wires spell.rest ends_idle) parts spell.reading) in
    let count : length spell.wires ≡ length requests = length-meant users session requests spell.wires spell.each in
    let lengths : length spell.wires ≡ length done.requests + length prefix.0 = ap length prefix.1 ∙ length-append done.requests prefix.0 in
    let going : GoOn done.requests = go_on-front done.requests prefix.0 (subst GoOn prefix.1 (go_on-meant users session requests spell.wires spell.each)) in
    let here : requests_of answers ≡ done.requests = done.all ∙ served-going done.requests going (omega arith) in
    let answered : length answers ≡ length done.requests = sym (length-map answers (λ (answer : Answer). answer.wire)) ∙ ap length here in
    let none : prefix.0 ≡ [] = nil_from_length prefix.0 (omega arith) in
    subst (AllZip (Means users session) requests) (prefix.1 ∙ ap (λ later. done.requests ++ later) none ∙ append-nil done.requests ∙ sym here) spell.each

-- with what else is known of each answer
abbrev IsAtMoment : Answer → Type 0
IsAtMoment answer = answer.turn.moment ≡ pos load_moment

abbrev IsThere : Answer → Type 0
IsThere answer = answer.reply.status ≢ 503

pub each-answered : (users : Users) (session : ℕ) (requests : List Request) (answers : List Answer) → AllZip (Means users session) requests (requests_of answers)
    → AllByRecursion IsAtMoment answers → AllByRecursion IsThere answers → AllZip (Answers users session) requests answers
each-answered users session [] [] means moments there = tt
each-answered users session [] (answer ∷ answers) means moments there = absurd means
each-answered users session (request ∷ requests) [] means moments there = absurd means
each-answered users session (request ∷ requests) (answer ∷ answers) means moments there =
    (record { means = means.0; moment = moments.0; there = there.0 }, each-answered users session requests answers means.1 moments.1 there.1)

-- What is written

nat_le-false : (a b : ℕ) → b < a → nat_le a b ≡ false
nat_le-false a b less = grind arith

octets-of : (users : Users) (session before : ℕ) (request : Request) (answer : Answer) → Answers users session request answer → before + 1 < request_limit
    → answer_octets before answer.wire answer.reply answer.turn.moment ≡ reply_octets answer.reply (pos load_moment) false false
unfolding answer_octets
octets-of users session before request answer is early =
    let closes : closes_after before answer.wire ≡ false = rw (is.means.goes_on, nat_le-false request_limit (before + 1) early) refl in
    λ i. reply_octets answer.reply (is.moment i) (closes i) (is.means.has_body i)

pub replies_from-octets : (users : Users) (session before : ℕ) (requests : List Request) (answers : List Answer) → AllZip (Answers users session) requests answers
    → before + length answers < request_limit → replies_from before answers ≡ all_octets (replies_in answers)
replies_from-octets users session before [] [] each few = refl
replies_from-octets users session before [] (answer ∷ answers) each few = absurd each
replies_from-octets users session before (request ∷ requests) [] each few = absurd each
replies_from-octets users session before (request ∷ requests) (answer ∷ answers) each few =
    let first = octets-of users session before request answer each.0 (omega arith) in
    let rest = replies_from-octets users session (before + 1) requests answers each.1 (omega arith) in
    λ i. first i ++ rest i
