-- The frames of a script: what comes on which of sixteen connections, and when, and the steps of a worker. They are this project's own and stand in no standard.
-- Given: octets. Gives: which of them are frames, one after the other, and where that ends.
use Rattle.std.specs.Prelude.{◌≡◌, ◌≢◌, ℕ, ◌≤◌, List, ◌++◌, length, All, flat_map, codes, decimal}
use Rattle.cal_model.specs.Words.Limits.{payload_limit, last_moment}

-- what a worker frame does with its slot
pub data WorkerStep : Type 0 where
  claim : WorkerStep
  expand : WorkerStep
  publish : WorkerStep
  abandon : WorkerStep

pub data Frame : Type 0 where
  -- octets that come on a connection at a moment, in seconds since 1970
  bytes : (connection : ℕ) (moment : ℕ) (payload : List ℕ) → Frame
  worker : (step : WorkerStep) (slot : ℕ) → Frame

abbrev pub step_word : WorkerStep → List ℕ
step_word claim = codes "claim"
step_word expand = codes "expand"
step_word publish = codes "publish"
step_word abandon = codes "abandon"

-- The spelling of a frame: a line, and of octets the length in it, then the octets and a line feed.
unfoldable pub frame_text : Frame → List ℕ
frame_text (bytes connection moment payload) =
    codes "bytes " ++ (decimal connection ++ (codes " " ++ (decimal moment ++ (codes " " ++ (decimal (length payload) ++ (codes "\n"
    ++ (payload ++ codes "\n")))))))
frame_text (worker step slot) = step_word step ++ (codes " " ++ (decimal slot ++ codes "\n"))

-- the greatest numbers of a connection and of a slot
abbrev pub last_connection : ℕ
last_connection = 15

abbrev pub last_slot : ℕ
last_slot = 63

pub record AreInBounds (connection moment : ℕ) (payload : List ℕ) : Type 0 where
  pub connection_to : connection ≤ last_connection
  pub moment_to : moment ≤ last_moment
  pub payload_to : length payload ≤ payload_limit

abbrev pub IsFrame : Frame → Type 0
IsFrame (bytes connection moment payload) = AreInBounds connection moment payload
IsFrame (worker step slot) = slot ≤ last_slot

-- the spellings of some frames, one after the other
abbrev pub frames_text : List Frame → List ℕ
frames_text frames = flat_map frame_text frames

-- The input is the spellings of the frames, and then a rest that begins with no frame: nothing, a bad frame, or a cut one. The rest stands at the place `length (frames_text frames)`.
pub record IsCutInto (input : List ℕ) (frames : List Frame) (rest : List ℕ) : Type 0 where
  pub bounds : All IsFrame frames
  pub spelled : input ≡ frames_text frames ++ rest
  pub ended : (frame : Frame) (more : List ℕ) → IsFrame frame → rest ≢ frame_text frame ++ more

-- a frame of the output: the octets of one reply on a connection
unfoldable pub reply_frame : ℕ → List ℕ → List ℕ
reply_frame connection octets =
    codes "reply " ++ (decimal connection ++ (codes " " ++ (decimal (length octets) ++ (codes "\n" ++ (octets ++ codes "\n")))))
