-- What a crash leaves of a file. Between two syncs each range that was written, and what lies past the old end, may hold any octets; all other octets stay. After a sync that succeeded a crash leaves what a read gives.
-- This is the least that a file system promises of a file that is written in place.
-- Given: what was done to the file. Gives: what a read gives, what a crash now may leave, and what a crash at some moment since an earlier one may have left.
use Rattle.std.specs.Prelude.{◌≡◌, ℕ, ◌+◌, ◌-◌, ◌<◌, ◌≤◌, ◌⊎◌, List, [], ◌∷◌, ◌++◌, length, take, drop, replicate, slice_get}

-- The past of a file: it was found with some octets, all of them on the disk. Then writes and syncs came, one after the other. A write has its place and its number of octets, and the octets that a read of the whole file gives after it.
pub data Past : Type 0 where
  found : (octets : List ℕ) → Past
  wrote : (before : Past) (place count : ℕ) (octets : List ℕ) → Past
  synced : (before : Past) → Past

-- what a read of the whole file gives
abbrev pub reading : Past → List ℕ
reading (found octets) = octets
reading (wrote before place count octets) = octets
reading (synced before) = reading before

-- Each octet outside a range stays. In the range, and past the old end, any octets may stand, and any number of them past that end.
pub record IsTorn (place count : ℕ) (old new : List ℕ) : Type 0 where
  pub stays : (at : ℕ) → at < length old → (at < place) ⊎ (place + count ≤ at) → slice_get new at ≡ slice_get old at

-- What a crash now may leave.
abbrev pub MayLeave : Past → List ℕ → Type 0
MayLeave (found octets) image = image ≡ octets
MayLeave (wrote before place count octets) image = (earlier : List ℕ) × MayLeave before earlier × IsTorn place count earlier image
MayLeave (synced before) image = image ≡ reading before

-- A moment is told by how many writes and syncs came before it.
abbrev pub moment : Past → ℕ
moment (found octets) = 0
moment (wrote before place count octets) = moment before + 1
moment (synced before) = moment before + 1

-- What a crash at some moment since an earlier one may have left, within a call or between two. (Within a write or a sync it leaves what one right before it or right after it may leave.)
abbrev pub LeftSince : ℕ → Past → List ℕ → Type 0
LeftSince since (found octets) image = MayLeave (found octets) image
LeftSince since (wrote before place count octets) image = MayLeave (wrote before place count octets) image ⊎ ((since ≤ moment before) × LeftSince since before image)
LeftSince since (synced before) image = MayLeave (synced before) image ⊎ ((since ≤ moment before) × LeftSince since before image)

-- Words over these

-- a crash now leaves what a read gives
abbrev pub IsSettled : Past → Type 0
IsSettled past = (image : List ℕ) → MayLeave past image → image ≡ reading past

-- a file as it reads is one of the images that a crash may leave
abbrev pub IsPossible : Past → Type 0
IsPossible past = MayLeave past (reading past)

-- From one past to a later one each crash left only images that have a property; and from any earlier moment on only these, beside what it might have left before.
pub record LeavesOnly (P : List ℕ → Type 0) (old new : Past) : Type 0 where
  pub later : moment old ≤ moment new
  pub each : (image : List ℕ) → LeftSince (moment old) new image → P image
  pub before : (start : ℕ) (image : List ℕ) → start ≤ moment old → LeftSince start new image → LeftSince start old image ⊎ P image

-- the octets with a piece written over those at a place; where the place lies past the end, zeros stand before it
abbrev pub with_piece : ℕ → List ℕ → List ℕ → List ℕ
with_piece place [] octets = octets
with_piece place (octet ∷ piece) octets = take place (octets ++ replicate (place - length octets) 0) ++ (octet ∷ piece) ++ drop (place + length (octet ∷ piece)) octets
