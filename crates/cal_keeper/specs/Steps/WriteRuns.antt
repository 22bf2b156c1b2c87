-- Runs of writes: a text that is put at a place piece by piece, and a piece that is written between two syncs.
-- Given: the pasts before and after, where the disk tells them.
use Rattle.std.specs.Prelude.{◌≡◌, ℕ, ◌<◌, ◌≤◌, ◌⊎◌, Bool, IsTrue, List, length, slice_get, Option, Some, None}
use Rattle.cal_keeper.specs.Disks.CrashModel.{Past, reading, IsTorn, MayLeave, moment, LeftSince, IsSettled, with_piece}

-- each octet in front of a place stays
pub record IsSpared (place : ℕ) (old new : List ℕ) : Type 0 where
  pub stays : (at : ℕ) → at < length old → at < place → slice_get new at ≡ slice_get old at

-- From one past to a later one only octets from a place on were touched, at whichever moment a crash came.
pub record Spares (place : ℕ) (old new : Past) : Type 0 where
  pub later : moment old ≤ moment new
  pub now : (image : List ℕ) → MayLeave new image → (earlier : List ℕ) × MayLeave old earlier × IsSpared place earlier image
  pub since : (start : ℕ) (image : List ℕ) → start ≤ moment old → LeftSince start new image
      → LeftSince start old image ⊎ ((earlier : List ℕ) × MayLeave old earlier × IsSpared place earlier image)

-- A run of writes puts a text at a place. It touches no octet in front of that place, and where it went through, the text stands there.
pub record PutsText (place : ℕ) (text : List ℕ) (went_through : Bool) (old new : Past) : Type 0 where
  pub spares : Spares place old new
  pub stands : IsTrue went_through → place ≤ length (reading old) → reading new ≡ with_piece place text (reading old)

-- the same, where the disk tells the past
abbrev pub Puts : ℕ → List ℕ → Bool → Option Past → Option Past → Type 0
Puts place text went_through None new = new ≡ None
Puts place text went_through (Some old) new = (past : Past) × (new ≡ Some past) × PutsText place text went_through old past

-- A piece is written over the octets at a place, behind a sync, and synced itself. At whichever moment a crash comes, it leaves what it might have left before, or the octets as they were read but for those of the piece.
pub record ReplacesPiece (place : ℕ) (piece : List ℕ) (went_through : Bool) (old new : Past) : Type 0 where
  pub later : moment old ≤ moment new
  pub since : (start : ℕ) (image : List ℕ) → start ≤ moment old → LeftSince start new image → LeftSince start old image ⊎ IsTorn place (length piece) (reading old) image
  pub settled : IsTrue went_through → IsSettled new
  pub stands : IsTrue went_through → reading new ≡ with_piece place piece (reading old)

-- the same, where the disk tells the past
abbrev pub Replaces : ℕ → List ℕ → Bool → Option Past → Option Past → Type 0
Replaces place piece went_through None new = new ≡ None
Replaces place piece went_through (Some old) new = (past : Past) × (new ≡ Some past) × ReplacesPiece place piece went_through old past
