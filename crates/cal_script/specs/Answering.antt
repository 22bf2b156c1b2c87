-- Answering what the octets of one frame complete: what is printed, and the state after it.
-- Given: the users, the number of a connection and a moment.
use Rattle.std.specs.Prelude.{◌≡◌, ℕ, Bool, true, false, List, ◌∷◌, ◌++◌, take, pos, Option, Result, Ok, Err}
use Rattle.cal_base.specs.World.Outside.{Rose, Adds}
use Rattle.cal_model.specs.declared.request.Event.{Event}
use Rattle.cal_model.specs.declared.wire.WireRequest.{WireRequest}
use Rattle.cal_model.specs.History.Journal.{IsLegal}
use Rattle.cal_model.specs.Replies.WireReplies.{answer_octets}
use Rattle.cal_model.specs.State.ServerState.{ServerState, directory_of}
use Rattle.cal_model.specs.Transcripts.ConnectionAnswers.{Completed, whole, Completes}
use Rattle.cal_model.specs.Transcripts.ScriptFrames.{reply_frame}
use Rattle.cal_model.specs.Transcripts.Transcript.{Answer, IsAnswer, Prints}
use Rattle.cal_model.specs.Users.UsersFile.{Users}
use Rattle.cal_book.specs.Cores.{Core}
use Rattle.cal_book.specs.declared.desk.Told.{Told}
use Rattle.cal_book.specs.declared.desk.Told.TheVariants.{Reply, Broken as ToldBroken}
use Rattle.cal_script.specs.EnteredRequests.{ArrivalAsks, EntersSome}
use Rattle.cal_script.specs.declared.answering.Stop.{Stop}
use Rattle.cal_script.specs.declared.answering.Stop.TheVariants.{Unwritten, Broken}

-- the book is of these users, and legal
pub record IsBookOf (users : Users) (book : Core) : Type 0 where
  pub users_are : book.users ≡ users
  pub legal : IsLegal (directory_of users) book.work.journal

-- answering changes nothing of the claims that are out; of these events, some were entered
pub record GoesOn (users : Users) (events : List Event) (before after : Core) : Type 0 where
  pub out : after.work.out ≡ before.work.out
  pub enters : EntersSome users events before.work.journal after.work.journal

-- so it went on with the events of what octets complete on a connection
abbrev pub GoesOnBy : Users → ℕ → ℕ → List ℕ → List ℕ → Core → Core → Type 0
GoesOnBy users number moment stream payload before after = (events : List Event) × ArrivalAsks users number moment stream payload events × GoesOn users events before after

-- the answer to a request
abbrev pub answer_frame : ℕ → ℕ → ℕ → WireRequest → Answer → List ℕ
answer_frame number moment before wire given = reply_frame number (answer_octets before wire given.reply (pos moment))

-- a request was answered, and these are the octets of the reply
pub record IsAnswered (users : Users) (number moment before : ℕ) (wire : WireRequest) (state after : ServerState) (octets : List ℕ) : Type 0 where
  pub given : Answer
  pub is : IsAnswer users state number moment wire given
  pub stands : after ≡ given.server
  pub octets_are : octets ≡ answer_octets before wire given.reply (pos moment)

-- a request was answered, and its reply written
pub record WroteAnswer (users : Users) (number moment before : ℕ) (wire : WireRequest) (state after : ServerState) (written now : Option (List ℕ)) : Type 0 where
  pub given : Answer
  pub is : IsAnswer users state number moment wire given
  pub stands : after ≡ given.server
  pub added : Adds written (answer_frame number moment before wire given) now

-- or a beginning of it
pub record WroteAnswerInPart (users : Users) (number moment before : ℕ) (wire : WireRequest) (state : ServerState) (written now : Option (List ℕ)) : Type 0 where
  pub given : Answer
  pub is : IsAnswer users state number moment wire given
  pub many : ℕ
  pub added : Adds written (take many (answer_frame number moment before wire given)) now

-- what the octets of a frame complete on a connection, and what is printed for it
pub record PrintsMore (users : Users) (number moment : ℕ) (stream payload : List ℕ) (state : ServerState) (printed : List ℕ) (after : ServerState) : Type 0 where
  pub done : List Completed
  pub more : List Completed
  pub before_them : Completes stream done
  pub with_them : Completes (stream ++ payload) (done ++ more)
  pub prints : Prints users number moment state more printed after

-- all of it was written
pub record WroteAll (users : Users) (number moment : ℕ) (stream payload : List ℕ) (state after : ServerState) (written now : Option (List ℕ)) : Type 0 where
  pub printed : List ℕ
  pub prints : PrintsMore users number moment stream payload state printed after
  pub added : Adds written printed now

-- or a beginning of it
pub record WroteInPart (users : Users) (number moment : ℕ) (stream payload : List ℕ) (state : ServerState) (written now : Option (List ℕ)) : Type 0 where
  pub printed : List ℕ
  pub missing : List ℕ
  pub after : ServerState
  pub prints : PrintsMore users number moment stream payload state (printed ++ missing) after
  pub added : Adds written printed now

-- The desk told its fault when a request was asked that the octets complete: what is printed for those before it.
pub record PrintsBefore (users : Users) (number moment : ℕ) (stream payload : List ℕ) (state : ServerState) (printed : List ℕ) : Type 0 where
  pub done : List Completed
  pub more : List Completed
  pub place : ℕ
  pub wire : WireRequest
  pub behind : List Completed
  pub before_them : Completes stream done
  pub with_them : Completes (stream ++ payload) (done ++ (more ++ whole place wire ∷ behind))
  pub server : ServerState
  pub prints : Prints users number moment state more printed server

-- it was written, and nothing else
pub record WroteBefore (users : Users) (number moment : ℕ) (stream payload : List ℕ) (state : ServerState) (written now : Option (List ℕ)) : Type 0 where
  pub printed : List ℕ
  pub prints : PrintsBefore users number moment stream payload state printed
  pub added : Adds written printed now

-- Stops

-- what holds where something stopped short, and what where the desk told its fault
abbrev pub StopsBy : {X : Type 0} → Stop X → Type 0 → Type 0 → Type 0
StopsBy (Unwritten why) short broken = short
StopsBy (Broken fault) short broken = broken

abbrev pub StopsSo : {T X : Type 0} → Result T (Stop X) → Type 0 → Type 0 → Type 0
StopsSo (Ok value) short broken = Unit {0}
StopsSo (Err stop) short broken = StopsBy stop short broken

-- A desk that told its fault is broken, and it was so before or a fault was counted.
abbrev pub Breaks : Bool → ℕ → Bool → ℕ → Type 0
Breaks before count after counted = (after ≡ true) × (before ≡ false → Rose count counted)

-- Whether the desk is broken does not change, unless it told its fault.
abbrev pub IsStoppedBy : {X : Type 0} → Stop X → Bool → ℕ → Bool → ℕ → Type 0
IsStoppedBy (Unwritten why) before count after counted = after ≡ before
IsStoppedBy (Broken fault) before count after counted = Breaks before count after counted

abbrev pub IsBrokenBy : {T X : Type 0} → Result T (Stop X) → Bool → ℕ → Bool → ℕ → Type 0
IsBrokenBy (Ok value) before count after counted = after ≡ before
IsBrokenBy (Err stop) before count after counted = IsStoppedBy stop before count after counted

abbrev pub IsToldBy : {X : Type 0} → Told X → Bool → ℕ → Bool → ℕ → Type 0
IsToldBy (Reply reply) before count after counted = after ≡ before
IsToldBy (ToldBroken fault) before count after counted = Breaks before count after counted
