-- A session under way: all that the octets so far complete in front of a place was answered.
-- Given: as in Sessions; and the wire, or what is left of the octets behind the requests that were answered.
use Rattle.std.specs.Prelude.{◌≡◌, ◌⊎◌, ℕ, ◌≤◌, true, List, ◌++◌, length, Result, Ok, Err, Option, Some, None}
use Rattle.turn_lock.specs.Passes.{PassState}
use Rattle.http_wire.specs.Wires.{Stands}
use Rattle.http_wire.specs.declared.wire.Wire.{Wire}
use Rattle.cal_model.specs.History.Journal.{Entry}
use Rattle.cal_model.specs.Streams.StreamRequests.{Spells, Front, front, idle, cut}
use Rattle.cal_model.specs.Transcripts.ConnectionAnswers.{is_open}
use Rattle.cal_model.specs.Users.UsersFile.{Users}
use Rattle.cal_session.specs.AskedTurns.{IsLater}
use Rattle.cal_session.specs.Connections.{requests_of}
use Rattle.cal_session.specs.SessionStates.{Environment, SessionState, HasSeenMore}
use Rattle.cal_session.specs.Sessions.{whole_exchange, HasRun, HasServed, HasBroken}
use Rattle.cal_session.specs.Turns.{Answer, seen_behind}
use Rattle.cal_session.specs.declared.served.Served.{Served}
use Rattle.cal_session.specs.declared.served.How.{How}
use Rattle.cal_session.specs.declared.served.How.TheVariants.{Closed, CutInRequest}
use Rattle.cal_session.specs.declared.answering.Due.{Due}
use Rattle.cal_session.specs.declared.answering.Due.TheVariants.{Answered, Waits, Stops}
use Rattle.cal_session.specs.declared.served.OnEnd.{OnEnd}
use Rattle.cal_session.specs.declared.served.OnEnd.TheVariants as on_end
use Rattle.cal_session.specs.declared.answering.Stop.{Stop}
use Rattle.cal_session.specs.declared.answering.Stop.TheVariants.{Ended, Broken}

-- these requests were answered, all their replies written, what is left stands behind them, and the pass has seen no more than they tell
pub record IsReached (environment : Environment) (before now : SessionState) (turns : List Served) (stream rest : List ℕ) : Type 0 where
  pub pass : HasSeenMore before.pass now.pass
  pub answers : List Answer
  pub run : HasRun environment before now turns (whole_exchange stream answers)
  pub still_open : is_open (requests_of answers) ≡ true
  pub spelled : Spells stream (requests_of answers) rest
  pub faults : before.link.faults ≤ now.link.faults
  pub seen : seen_behind environment.users before.pass.number now.pass.seen (length before.pass.seen) answers ≡ length now.pass.seen

pub record IsUnderWay (environment : Environment) (before now : SessionState) (turns : List Served) (wire : Wire) : Type 0 where
  pub stream : List ℕ
  pub rest : List ℕ
  pub reached : IsReached environment before now turns stream rest
  pub stands : Stands rest wire

-- and what is left begins no further request, and shows no fault
pub record IsWaiting (environment : Environment) (before now : SessionState) (turns : List Served) (wire : Wire) : Type 0 where
  pub stream : List ℕ
  pub rest : List ℕ
  pub reached : IsReached environment before now turns stream rest
  pub stands : Stands rest wire
  pub waits : (front rest ≡ idle) ⊎ (front rest ≡ cut)

-- it has ended in that way, with the turns that were noted
abbrev pub EndsIn : Environment → SessionState → SessionState → List Served → How → Type 0
EndsIn environment before after turns how = HasServed environment before after (record { how = how; turns = turns })

-- a session that stops there has ended so
abbrev pub StopsSo : {X : Type 0} → Environment → SessionState → SessionState → List Served → Stop X → Type 0
StopsSo environment before after turns (Ended how) = EndsIn environment before after turns how
StopsSo environment before after turns (Broken fault) = HasBroken environment before after turns

-- a pass had turns, or none, in which it added nothing
pub record HasOnlyLooked (old new : PassState Entry Users) : Type 0 where
  pub pass : HasSeenMore old new
  pub others : IsLater old new.seen
  pub looks : List ℕ
  pub grown : new.looks ≡ old.looks ++ looks

-- so it was behind the end of a session; one whose desk broke had none
abbrev pub HasLastTurn : {X : Type 0} → Stop X → PassState Entry Users → PassState Entry Users → Type 0
HasLastTurn (Ended how) old new = HasOnlyLooked old new
HasLastTurn (Broken fault) old new = new ≡ old

-- the end of a session that stopped so, with the turns that were noted
abbrev pub IsEndWith : {X : Type 0} → Stop X → List Served → OnEnd X → Type 0
IsEndWith (Ended how) turns end = end ≡ on_end.Ended (record { how = how; turns = turns })
IsEndWith (Broken fault) turns end = end ≡ on_end.Broken fault turns

-- by a result: it goes on, or has stopped
abbrev pub GoesOnOrStops : {T X : Type 0} → Type 0 → (Stop X → Type 0) → Result T (Stop X) → Type 0
GoesOnOrStops goes_on stops (Ok nothing) = goes_on
GoesOnOrStops goes_on stops (Err stop) = stops stop

-- by what comes of the octets that are there: a request was answered, or none is whole, or it has stopped
abbrev pub ComesTo : {X : Type 0} → Type 0 → Type 0 → (Stop X → Type 0) → Due X → Type 0
ComesTo answered waits stops Answered = answered
ComesTo answered waits stops Waits = waits
ComesTo answered waits stops (Stops stop) = stops stop

-- a fact, where a request was answered
abbrev pub IfAnswered : {X : Type 0} → Due X → Type 0 → Type 0
IfAnswered Answered fact = fact
IfAnswered Waits fact = Unit {0}
IfAnswered (Stops stop) fact = Unit {0}

-- it goes on, or has ended so
abbrev pub GoesOnOrEnds : Type 0 → (How → Type 0) → Option How → Type 0
GoesOnOrEnds goes_on ends None = goes_on
GoesOnOrEnds goes_on ends (Some how) = ends how

-- with the end of the octets it is closed where nothing but empty lines is left, and else cut
abbrev pub EndsAtEnd : Front → How → Type 0
EndsAtEnd what Closed = what ≡ idle
EndsAtEnd what CutInRequest = ¬ (what ≡ idle)
EndsAtEnd what other = ⊥
