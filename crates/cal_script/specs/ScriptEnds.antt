-- How a run of a script ends.
-- Given: what the input told before and after the run, and what the output did.
use Rattle.std.specs.Prelude.{◌≡◌, ◌≢◌, ◌⊎◌, ℕ, ◌+◌, List, [], ◌∷◌, length, bytes_eq, not, ◌&&◌, Bool, All, ◌++◌, if◌then◌else◌, Option, Some, None, IfSome, codes}
use Rattle.cal_base.specs.declared.stream.Sink.{Ghosts as SinkMembers}
use Rattle.cal_base.specs.declared.stream.Source.{Ghosts as SourceMembers}
use Rattle.cal_base.specs.World.Outside.{Takes, Adds}
use Rattle.cal_model.specs.State.ServerState.{ServerState}
use Rattle.cal_model.specs.Transcripts.ScriptFrames.{Frame as ScriptFrame, frames_text, IsFrame, IsCutInto}
use Rattle.cal_model.specs.Transcripts.Transcript.{Standing, Follows}
use Rattle.cal_model.specs.Transcripts.TranscriptLaws.{Leads}
use Rattle.cal_model.specs.Users.UsersFile.{Users}
use Rattle.cal_script.specs.AnsweredFrames.{BrokeAmong}
use Rattle.cal_script.specs.Answering.{Breaks}
use Rattle.cal_script.specs.FrameHeads.{IsFrameStart}
use Rattle.cal_script.specs.Standings.{standing_in}
use Rattle.cal_script.specs.declared.running.FrameEnd.{FrameEnd}
use Rattle.cal_script.specs.declared.running.FrameEnd.TheVariants.{Done, Frame, Input, Output, NoMemory}
use Rattle.cal_script.specs.declared.running.FramesOn.{FramesOn}
use Rattle.cal_script.specs.declared.running.FramesOn.TheVariants.{End, Broken}

-- Words

-- the path of the users file, where the words are `script`, `--users` and a path that is not empty
abbrev pub users_path : List (List ℕ) → Option (List ℕ)
users_path (command ∷ option ∷ path ∷ []) =
    if bytes_eq command (codes "script") && (bytes_eq option (codes "--users") && not (bytes_eq path [])) then Some path else None
users_path _ = None

-- Statuses

-- those of words or a users file that are refused
abbrev pub RefusesStart : ℕ → Type 0
RefusesStart status = (status ≡ 2) ⊎ (status ≡ 3)

-- those that come only once the users file is taken
abbrev pub RunsFrames : ℕ → Type 0
RunsFrames status = (status ≡ 0) ⊎ (status ≡ 5) ⊎ (status ≡ 6)

-- those at which the last replies may be missing, or a part of one
abbrev pub EndsInPart : ℕ → Type 0
EndsInPart status = (status ≡ 5) ⊎ (status ≡ 7)

-- those that have a place
abbrev pub HasPlace : ℕ → Type 0
HasPlace status = (status ≡ 0) ⊎ (status ≡ 3) ⊎ (status ≡ 6)

-- What is printed

-- the output is what may be printed for the whole frames of these octets, which end before the rest, from where a script stands; and they lead to that state
pub record IsPrintedFrom (users : Users) (before : Standing) (server : ServerState) (input rest output : List ℕ) : Type 0 where
  pub frames : List ScriptFrame
  pub cut : IsCutInto input frames rest
  pub after : Standing
  pub leads : Leads users before frames output after
  pub state : after.server ≡ server

-- the output is a beginning of what may be printed for whole frames at the start of these octets, from where a script stands
pub record IsPrintedInPartFrom (users : Users) (before : Standing) (input output : List ℕ) : Type 0 where
  pub frames : List ScriptFrame
  pub bounds : All IsFrame frames
  pub behind : List ℕ
  pub spelled : input ≡ frames_text frames ++ behind
  pub missing : List ℕ
  pub follows : Follows users before frames (output ++ missing)

-- What is told of a run

-- what the input has left to read and what the output has written, before the run and after it, where that is told
pub record RunTold : Type 0 where
  pub left : Option (List ℕ)
  pub left_after : Option (List ℕ)
  pub written : Option (List ℕ)
  pub written_after : Option (List ℕ)

abbrev pub run_told : {I O : Type 0} → SourceMembers I → SinkMembers O → I → I → O → O → RunTold
run_told source sink input input_after output output_after =
    record { left = source.left input; left_after = source.left input_after; written = sink.written output; written_after = sink.written output_after }

-- Ends of a run, by what may be printed for some octets and a rest (`prints`), and as a beginning (`front_prints`)

module _ (prints : List ℕ → List ℕ → List ℕ → Type 0) where
  -- the input was read to its end, and the output is what may be printed for all of it, whose length is the place
  pub record RanToEnd (told : RunTold) (place : ℕ) : Type 0 where
    pub all : List ℕ
    pub input_is : IfSome told.left (λ octets. octets ≡ all)
    pub ended : told.left_after ≡ Some []
    pub printed : List ℕ
    pub follows : prints all [] printed
    pub added : Adds told.written printed told.written_after
    pub place_is : place ≡ length all

  -- the output is what may be printed for the frames of the input that stand before the place, where no frame begins
  pub record MetBadFrame (told : RunTold) (place : ℕ) : Type 0 where
    pub all : List ℕ
    pub input_is : IfSome told.left (λ octets. octets ≡ all)
    pub rest : List ℕ
    pub some : rest ≢ []
    pub printed : List ℕ
    pub follows : prints all rest printed
    pub added : Adds told.written printed told.written_after
    pub place_is : place + length rest ≡ length all

  -- the output is what may be printed for what was taken from the input, and what stands behind the whole frames of it is the start of a frame
  pub record StoppedReading (told : RunTold) : Type 0 where
    pub taken : List ℕ
    pub took : Takes told.left taken told.left_after
    pub rest : List ℕ
    pub start : IsFrameStart rest
    pub printed : List ℕ
    pub follows : prints taken rest printed
    pub added : Adds told.written printed told.written_after

-- the output is a beginning of what may be printed for whole frames at the start of the input
pub record WroteFront (front_prints : List ℕ → List ℕ → Type 0) (told : RunTold) : Type 0 where
  pub input : List ℕ
  pub input_is : IfSome told.left (λ octets. octets ≡ input)
  pub printed : List ℕ
  pub follows : front_prints input printed
  pub added : Adds told.written printed told.written_after

-- what is said of the end of a run is so
abbrev pub HasEnded : (List ℕ → List ℕ → List ℕ → Type 0) → (List ℕ → List ℕ → Type 0) → FrameEnd → RunTold → Type 0
HasEnded prints front_prints (Done place) told = RanToEnd prints told place
HasEnded prints front_prints (Frame place) told = MetBadFrame prints told place
HasEnded prints front_prints Input told = StoppedReading prints told
HasEnded prints front_prints Output told = WroteFront front_prints told
HasEnded prints front_prints NoMemory told = WroteFront front_prints told

-- Runs at a desk

-- the desk told its fault when a request was asked that a frame of the input completes: the output is what is printed for the frames before that one, and for its requests before that request
pub record BrokeOff (users : Users) (before : Standing) (told : RunTold) : Type 0 where
  pub input : List ℕ
  pub input_is : IfSome told.left (λ octets. octets ≡ input)
  pub broke : BrokeAmong users input before told.written told.written_after

-- what is said of a run is so, from the desk's state before it to that after it
abbrev pub HasEndedOn : {X : Type 0} → Users → ServerState → ServerState → FramesOn X → RunTold → Type 0
HasEndedOn users before after (End ended) told = HasEnded (IsPrintedFrom users (standing_in before) after) (IsPrintedInPartFrom users (standing_in before)) ended told
HasEndedOn users before after (Broken fault) told = BrokeOff users (standing_in before) told

-- whether the desk is broken does not change, unless it told its fault
abbrev pub IsLeft : {X : Type 0} → FramesOn X → Bool → ℕ → Bool → ℕ → Type 0
IsLeft (End ended) before count after counted = after ≡ before
IsLeft (Broken fault) before count after counted = Breaks before count after counted
