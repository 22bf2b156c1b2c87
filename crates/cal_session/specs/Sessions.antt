-- A session on a connection: what it did, what it wrote, and how it ended.
-- Given: the users and what the clock tells; and before and after, what the pass knows, what is left of the link's octets, and what was written. Where a link tells no octets, nothing is said of them, and all else holds.
use Rattle.std.specs.Prelude.{◌≡◌, ◌⊎◌, ℕ, ◌<◌, true, List, [], ◌∷◌, ◌++◌, length, map, take, Option, Some, ℤ}
use Rattle.cal_base.specs.World.Outside.{Rose, Takes, Adds}
use Rattle.cal_model.specs.declared.wire.WireFault.{WireFault}
use Rattle.cal_model.specs.declared.wire.WireRequest.{WireRequest}
use Rattle.cal_model.specs.History.Journal.{Entry}
use Rattle.cal_model.specs.Replies.WireReplies.{fault_octets}
use Rattle.cal_model.specs.Requests.AskedRequests.{asked_of}
use Rattle.cal_model.specs.Streams.StreamRequests.{Ending, ends_idle, ends_cut, ends_at}
use Rattle.cal_model.specs.Streams.WireLimits.{request_limit}
use Rattle.cal_model.specs.Transcripts.ConnectionAnswers.{is_open}
use Rattle.cal_book.specs.EventSteps.{state_behind}
use Rattle.cal_session.specs.Connections.{requests_of, AnsweredAll, AnsweredSome, replies_of, IsFrontOfReplies}
use Rattle.cal_session.specs.SessionStates.{Environment, LinkTold, SessionState}
use Rattle.cal_session.specs.Turns.{Answer, IsSession, LooksUp, AreToldMoments, IsToldMoment, entries_in}
use Rattle.cal_session.specs.declared.served.Ended.{Ended}
use Rattle.cal_session.specs.declared.served.Served.{Served}
use Rattle.cal_session.specs.declared.served.How.{How}
use Rattle.cal_session.specs.declared.served.How.TheVariants.{Closed, CutInRequest, Limit, WireRefused, ReadFault, WriteFault, NoMemory}
use Rattle.cal_session.specs.declared.served.OnEnd.{OnEnd}
use Rattle.cal_session.specs.declared.served.OnEnd.TheVariants as on_end

-- what was exchanged on a connection: the octets that were taken, the requests that were answered, and the octets that were written
pub record Exchange : Type 0 where
  pub stream : List ℕ
  pub answers : List Answer
  pub printed : List ℕ

-- one in which all replies were written, and nothing else
abbrev pub whole_exchange : List ℕ → List Answer → Exchange
whole_exchange stream answers = record { stream = stream; answers = answers; printed = replies_of answers }

-- Ways to end

-- the last request that was answered asked to close, and was not the last that a connection has
pub record AskedToClose (answers : List Answer) : Type 0 where
  pub before : List Answer
  pub last : Answer
  pub parts : answers ≡ before ++ last ∷ []
  pub asks : last.wire.close ≡ true
  pub early : length answers < request_limit

-- the link's octets ended, where the connection was still open
pub record MetEnd (exchange : Exchange) (ending : Ending) (after : LinkTold) : Type 0 where
  pub answered : AnsweredAll exchange.stream exchange.answers ending
  pub still_open : is_open (requests_of exchange.answers) ≡ true
  pub at_end : after.left ≡ Some []

-- behind that request, whatever follows
pub record Closes (exchange : Exchange) : Type 0 where
  pub ending : Ending
  pub answered : AnsweredAll exchange.stream exchange.answers ending
  pub asked_to : AskedToClose exchange.answers

pub record MeetsLimit (exchange : Exchange) : Type 0 where
  pub ending : Ending
  pub answered : AnsweredAll exchange.stream exchange.answers ending
  pub full : length exchange.answers ≡ request_limit

-- the reply to the fault was written behind the others, with the clock's moment
pub record Refuses (clock : Option ℤ) (why : WireFault) (exchange : Exchange) : Type 0 where
  pub answered : AnsweredAll exchange.stream exchange.answers (ends_at why)
  pub still_open : is_open (requests_of exchange.answers) ≡ true
  pub moment : ℤ
  pub moment_is : IsToldMoment clock moment
  pub printed_is : exchange.printed ≡ replies_of exchange.answers ++ fault_octets why moment

-- the same, and only a beginning of the fault's reply was written
pub record RefusesInPart (clock : Option ℤ) (exchange : Exchange) : Type 0 where
  pub why : WireFault
  pub answered : AnsweredAll exchange.stream exchange.answers (ends_at why)
  pub still_open : is_open (requests_of exchange.answers) ≡ true
  pub moment : ℤ
  pub moment_is : IsToldMoment clock moment
  pub many : ℕ
  pub printed_is : exchange.printed ≡ replies_of exchange.answers ++ take many (fault_octets why moment)

-- a session that was cut short: what was written lacks at most the last reply, or a part of it
pub record IsCutShort (clock : Option ℤ) (exchange : Exchange) : Type 0 where
  pub missing : List WireRequest
  pub answered : AnsweredSome exchange.stream exchange.answers missing
  pub front : IsFrontOfReplies exchange.answers exchange.printed ⊎ RefusesInPart clock exchange

-- fewer octets were written than the replies have, or than they and the reply to the fault have
abbrev pub LacksSome : Option ℤ → Exchange → Type 0
LacksSome clock exchange =
    (length exchange.printed < length (replies_of exchange.answers)) ⊎ ((part : RefusesInPart clock exchange) × (part.many < length (fault_octets part.why part.moment)))

-- a read failed, where all that the octets before it complete was answered
pub record FailsToRead (exchange : Exchange) (before after : LinkTold) : Type 0 where
  pub ending : Ending
  pub answered : AnsweredAll exchange.stream exchange.answers ending
  pub still_open : is_open (requests_of exchange.answers) ≡ true
  pub fault : Rose before.faults after.faults

-- What is said of an end is so.
abbrev pub EndsSo : How → Option ℤ → LinkTold → LinkTold → Exchange → Type 0
EndsSo Closed clock before after exchange = (exchange.printed ≡ replies_of exchange.answers) × (MetEnd exchange ends_idle after ⊎ Closes exchange)
EndsSo CutInRequest clock before after exchange = (exchange.printed ≡ replies_of exchange.answers) × MetEnd exchange ends_cut after
EndsSo Limit clock before after exchange = (exchange.printed ≡ replies_of exchange.answers) × MeetsLimit exchange
EndsSo (WireRefused why) clock before after exchange = Refuses clock why exchange
EndsSo ReadFault clock before after exchange = (exchange.printed ≡ replies_of exchange.answers) × FailsToRead exchange before after
EndsSo WriteFault clock before after exchange = IsCutShort clock exchange × LacksSome clock exchange × Rose before.faults after.faults
EndsSo NoMemory clock before after exchange = IsCutShort clock exchange

-- What it did

-- the answers belong to the turns, and the octets that were taken and written are those
pub record HasRun (environment : Environment) (before after : SessionState) (turns : List Served) (exchange : Exchange) : Type 0 where
  pub taken : Takes before.link.left exchange.stream after.link.left
  pub turns_are : turns ≡ map (λ (answer : Answer). answer.turn) exchange.answers
  pub session : IsSession environment.users before.pass.number before.pass.seen exchange.answers after.pass.seen
  pub looks : LooksUp environment.users before.pass.looks exchange.answers after.pass.looks
  pub moments : AreToldMoments environment.clock exchange.answers
  pub written : Adds before.link.written exchange.printed after.link.written

-- a session that ended
pub record HasServed (environment : Environment) (before after : SessionState) (end : Ended) : Type 0 where
  pub exchange : Exchange
  pub run : HasRun environment before after end.turns exchange
  pub ended : EndsSo end.how environment.clock before.link after.link exchange

-- One whose desk broke when it was asked: the request's reply was not written, and its turn is not noted. What the desk kept of it is nothing, or the entry of its accepted change, behind what the pass had seen in that turn.
pub record HasBroken (environment : Environment) (before after : SessionState) (turns : List Served) : Type 0 where
  pub stream : List ℕ
  pub answers : List Answer
  pub seen : List Entry
  pub run : HasRun environment before (record { pass = record after.pass { seen = seen }; link = after.link }) turns (whole_exchange stream answers)
  pub wire : WireRequest
  pub missing : List WireRequest
  pub next : AnsweredSome stream answers (wire ∷ missing)
  pub moment : ℤ
  pub moment_is : IsToldMoment environment.clock moment
  pub kept : (after.pass.seen ≡ seen) ⊎ (after.pass.seen ≡ seen ++ entries_in environment.users before.pass.number (state_behind environment.users seen) moment (asked_of environment.users wire))

-- Over any desk.
abbrev pub HasServedOn : {X : Type 0} → Environment → SessionState → SessionState → OnEnd X → Type 0
HasServedOn environment before after (on_end.Ended end) = HasServed environment before after end
HasServedOn environment before after (on_end.Broken fault turns) = HasBroken environment before after turns
