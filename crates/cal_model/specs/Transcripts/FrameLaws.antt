-- The law of frames: an input has one cut into frames and a rest, since no frame begins another one. Frames are this project's own.
-- Given: octets, and two cuts of them.
use Rattle.std.specs.Prelude.{◌≡◌, ℕ, List}
use Rattle.cal_model.specs.Transcripts.ScriptFrames.{Frame, IsCutInto}

abbrev pub CutsAgree : Type 0
CutsAgree =
    (input : List ℕ) (frames others : List Frame) (rest left : List ℕ) → IsCutInto input frames rest → IsCutInto input others left
    → (frames ≡ others) × (rest ≡ left)
