-- What stands at the front of some octets of a script: a whole frame, the start of one, or what no frame begins with.
use Rattle.std.specs.Prelude.{◌≡◌, ◌≢◌, ℕ, List, ◌++◌}
use Rattle.cal_model.specs.Transcripts.ScriptFrames.{Frame as ScriptFrame, bytes, worker, frame_text, IsFrame}
use Rattle.cal_script.specs.FrameHeads.{step_of, IsFrameStart}
use Rattle.cal_script.specs.declared.frame.Frame.{Frame}
use Rattle.cal_script.specs.declared.frame.Frame.TheVariants.{Bytes, Worker}
use Rattle.cal_script.specs.declared.frame.FirstFrame.{FirstFrame}
use Rattle.cal_script.specs.declared.frame.FirstFrame.TheVariants.{Whole, Cut, Bad}

-- the frame that was found
abbrev pub frame_of : Frame → ScriptFrame
frame_of (Bytes came) = bytes came.connection came.moment came.payload.now
frame_of (Worker action slot) = worker (step_of action) slot

-- no whole frame stands at the front
abbrev pub BeginsNoFrame : List ℕ → Type 0
BeginsNoFrame octets = (frame : ScriptFrame) (more : List ℕ) → IsFrame frame → octets ≢ frame_text frame ++ more

-- nor does one whatever follows
abbrev pub NeverBeginsFrame : List ℕ → Type 0
NeverBeginsFrame octets = (more : List ℕ) → BeginsNoFrame (octets ++ more)

-- the octets are a frame, and then a rest
pub record IsFrameThen (octets : List ℕ) (frame : ScriptFrame) (rest : List ℕ) : Type 0 where
  pub bounds : IsFrame frame
  pub spelled : octets ≡ frame_text frame ++ rest

-- what was found at the front is right
abbrev pub IsFirstFrame : List ℕ → FirstFrame → Type 0
IsFirstFrame octets (Whole frame rest) = IsFrameThen octets (frame_of frame) rest.now
IsFirstFrame octets Cut = IsFrameStart octets
IsFirstFrame octets Bad = NeverBeginsFrame octets
