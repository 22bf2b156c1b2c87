-- How far the frames of some octets were answered, and what was written of their replies.
-- Given: the users, and where the script stood.
use Rattle.std.specs.Prelude.{◌≡◌, ℕ, ◌≤◌, Bool, List, [], ◌∷◌, ◌++◌, length, take, drop, All, Option}
use Rattle.cal_base.specs.World.Outside.{Adds}
use Rattle.cal_model.specs.declared.request.Event.{Event}
use Rattle.cal_model.specs.History.Journal.{Entry}
use Rattle.cal_model.specs.Transcripts.ScriptFrames.{Frame, bytes, frame_text, frames_text, IsFrame}
use Rattle.cal_model.specs.Transcripts.Transcript.{Standing, Turn, stream_of}
use Rattle.cal_model.specs.Transcripts.TranscriptLaws.{Leads}
use Rattle.cal_model.specs.Users.UsersFile.{Users}
use Rattle.cal_script.specs.Answering.{Breaks, PrintsBefore}
use Rattle.cal_script.specs.EnteredRequests.{EntersSome, FramesAsk, FrontEnters, streams_after}
use Rattle.cal_script.specs.FirstFrames.{NeverBeginsFrame}
use Rattle.cal_script.specs.FrameHeads.{IsFrameStart}
use Rattle.cal_script.specs.Standings.{Running, StandsAt}
use Rattle.cal_script.specs.declared.frames.Answering.{Answering}
use Rattle.cal_script.specs.declared.frames.Answering.TheVariants.{Cut, Bad, OutputFault, NoMemory, Broken}

-- One frame

-- a frame was answered: what it prints was written, and the script stands where the frame leaves it
pub record TookTurn (users : Users) (frame : Frame) (before : Standing) (script : Running) (written now : Option (List ℕ)) : Type 0 where
  pub printed : List ℕ
  pub after : Standing
  pub turn : Turn users before frame printed after
  pub added : Adds written printed now
  pub stands : StandsAt after script

-- a beginning of what it prints was written
pub record TookTurnInPart (users : Users) (frame : Frame) (before : Standing) (written now : Option (List ℕ)) : Type 0 where
  pub printed : List ℕ
  pub missing : List ℕ
  pub after : Standing
  pub turn : Turn users before frame (printed ++ missing) after
  pub added : Adds written printed now

-- the desk told its fault when a request was asked that the frame completes: what is printed for those before it was written, and nothing else
pub record BrokeInTurn (users : Users) (frame : Frame) (before : Standing) (written now : Option (List ℕ)) : Type 0 where
  pub connection : ℕ
  pub moment : ℕ
  pub payload : List ℕ
  pub is : frame ≡ bytes connection moment payload
  pub printed : List ℕ
  pub prints : PrintsBefore users connection moment (stream_of before connection) payload before.server printed
  pub added : Adds written printed now

-- Frames

-- what came on each connection once frames came too
abbrev pub streams_behind : List (List ℕ) → List Frame → List (List ℕ)
streams_behind streams [] = streams
streams_behind streams (frame ∷ frames) = streams_behind (streams_after streams frame) frames

-- the octets are whole frames; what they print was written, and the script stands where they leave it
pub record AnsweredWhole (users : Users) (octets : List ℕ) (before : Standing) (script : Running) (written now : Option (List ℕ)) : Type 0 where
  pub frames : List Frame
  pub bounds : All IsFrame frames
  pub spelled : octets ≡ frames_text frames
  pub printed : List ℕ
  pub after : Standing
  pub leads : Leads users before frames printed after
  pub added : Adds written printed now
  pub stands : StandsAt after script

-- whole frames stand at the front of the octets, and a beginning of what they print was written
pub record AnsweredInPart (users : Users) (octets : List ℕ) (before : Standing) (written now : Option (List ℕ)) : Type 0 where
  pub frames : List Frame
  pub bounds : All IsFrame frames
  pub behind : List ℕ
  pub spelled : octets ≡ frames_text frames ++ behind
  pub printed : List ℕ
  pub missing : List ℕ
  pub after : Standing
  pub leads : Leads users before frames (printed ++ missing) after
  pub added : Adds written printed now

-- the desk told its fault in the turn of a frame: what those before it print was written, and then what its requests print that come before the one that was asked
pub record BrokeAmong (users : Users) (octets : List ℕ) (before : Standing) (written now : Option (List ℕ)) : Type 0 where
  pub frames : List Frame
  pub bounds : All IsFrame frames
  pub frame : Frame
  pub is_frame : IsFrame frame
  pub behind : List ℕ
  pub spelled : octets ≡ frames_text frames ++ (frame_text frame ++ behind)
  pub printed : List ℕ
  pub there : Standing
  pub leads : Leads users before frames printed there
  pub middle : Option (List ℕ)
  pub added : Adds written printed middle
  pub last : BrokeInTurn users frame there middle now

-- the octets are whole frames, some of whose events were entered, and the script stands behind them
pub record EnteredWhole (users : Users) (octets : List ℕ) (streams : List (List ℕ)) (journal : List Entry) (script : Running) : Type 0 where
  pub frames : List Frame
  pub bounds : All IsFrame frames
  pub spelled : octets ≡ frames_text frames
  pub events : List Event
  pub ask : FramesAsk users streams frames events
  pub enters : EntersSome users events journal script.book.work.journal
  pub there : Standing
  pub came : there.streams ≡ streams_behind streams frames
  pub stands : StandsAt there script

-- so many octets in front are whole frames that were answered
pub record AnsweredTo (users : Users) (len : ℕ) (octets : List ℕ) (before : Standing) (script : Running) (written now : Option (List ℕ)) : Type 0 where
  pub within : len ≤ length octets
  pub whole : AnsweredWhole users (take len octets) before script written now

-- what is said of an end of answering is so
abbrev pub HasAnswered : {X : Type 0} → Users → Answering X → List ℕ → Standing → Running → Option (List ℕ) → Option (List ℕ) → Type 0
HasAnswered users (Cut len) octets before script written now = AnsweredTo users len octets before script written now × IsFrameStart (drop len octets)
HasAnswered users (Bad len) octets before script written now = AnsweredTo users len octets before script written now × NeverBeginsFrame (drop len octets)
HasAnswered users OutputFault octets before script written now = AnsweredInPart users octets before written now
HasAnswered users NoMemory octets before script written now = AnsweredInPart users octets before written now
HasAnswered users (Broken fault) octets before script written now = BrokeAmong users octets before written now

-- what is said of an end of answering is so of the journal: of the frames in front alone where answering goes on behind them
abbrev pub HasEntered : {X : Type 0} → Users → Answering X → List ℕ → List (List ℕ) → List Entry → Running → Type 0
HasEntered users (Cut len) octets streams journal script = EnteredWhole users (take len octets) streams journal script
HasEntered users other octets streams journal script = FrontEnters users streams octets journal script.book.work.journal

-- whether the desk is broken, as `IsBrokenBy` says it of one turn
abbrev pub IsLeftBy : {X : Type 0} → Answering X → Bool → ℕ → Bool → ℕ → Type 0
IsLeftBy (Broken fault) before count after counted = Breaks before count after counted
IsLeftBy other before count after counted = after ≡ before
