-- A journal file that is written whole: how it is begun and finished, whatever its payloads are.
-- Given: the pasts before and after, where the disk tells them.
use Rattle.std.specs.Prelude.{◌≡◌, ◌⊎◌, ℕ, ◌+◌, Bool, false, IsTrue, List, [], ◌++◌, length, Option, Some, None}
use Rattle.cal_keeper.specs.Disks.CrashModel.{Past, reading, LeavesOnly}
use Rattle.cal_keeper.specs.Files.Drafts.{blank, with_blank, IsDraft, TriesMark}
use Rattle.cal_keeper.specs.Files.Headers.{mark}
use Rattle.cal_keeper.specs.Files.Opening.{IsNoJournal}
use Rattle.cal_keeper.specs.Files.Payloads.{long_text}
use Rattle.cal_keeper.specs.Files.RecordForm.{IsFile, IsKept}

-- The blank was brought to the disk, and a text of users was put behind it: since the blank was there each crash left what is no journal, and where the text went through, it stands there.
pub record LaysText (text : List ℕ) (went_through : Bool) (old new : Past) : Type 0 where
  pub leaves : LeavesOnly IsNoJournal (with_blank old) new
  pub drafted : IsTrue went_through → IsDraft (blank ++ long_text text) [] (20 + length text) new

-- how the laying of both ended: it failed before the blank was on the disk, or behind that moment, or it went through
abbrev pub LaysBoth : List ℕ → Bool → Past → Past → Type 0
LaysBoth text went_through old new = ((went_through ≡ false) × ((new ≡ old) ⊎ TriesMark old new)) ⊎ LaysText text went_through old new

-- they are laid in an empty file, where the disk tells its past
abbrev pub LaysBlank : List ℕ → Bool → Option Past → Option Past → Type 0
LaysBlank text went_through None new = new ≡ None
LaysBlank text went_through (Some old) new = (past : Past) × (new ≡ Some past) × (reading old ≡ [] → LaysBoth text went_through old past)

-- the octets are no journal, or the file with this header and these payloads
abbrev pub IsNoneOrFile : List ℕ → List (List ℕ) → List ℕ → Type 0
IsNoneOrFile header payloads octets = IsNoJournal octets ⊎ IsFile header payloads octets

-- The mark is put in the place of the blank. At whichever moment a crash comes, it leaves what is no journal or the whole file; where it went through, the file is kept.
pub record SealsDraft (place : ℕ) (went_through : Bool) (old new : Past) : Type 0 where
  pub any_moment : (text : List ℕ) (payloads : List (List ℕ)) → IsDraft (blank ++ text) payloads place old → LeavesOnly (IsNoneOrFile (mark ++ text) payloads) old new
  pub whole : IsTrue went_through → (text : List ℕ) (payloads : List (List ℕ)) → IsDraft (blank ++ text) payloads place old → IsKept (mark ++ text) payloads place new

-- the same, where the disk tells the past
abbrev pub Seals : ℕ → Bool → Option Past → Option Past → Type 0
Seals place went_through None new = new ≡ None
Seals place went_through (Some old) new = (past : Past) × (new ≡ Some past) × SealsDraft place went_through old past
