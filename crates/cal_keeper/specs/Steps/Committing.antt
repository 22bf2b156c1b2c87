-- A record that is brought to a kept file, whatever its header and its payloads are.
-- Given: the pasts before and after, where the disk tells them.
use Rattle.std.specs.Prelude.{◌≡◌, ℕ, ◌+◌, ◌⊎◌, Bool, IsTrue, Option, Some, None, List, [], ◌∷◌, ◌++◌, length}
use Rattle.cal_keeper.specs.Disks.CrashModel.{Past, LeavesOnly}
use Rattle.cal_keeper.specs.Files.RecordForm.{IsFile, IsKept}

-- the file has these payloads, or these and one more
abbrev pub IsWithOrWithout : List ℕ → List (List ℕ) → List ℕ → List ℕ → Type 0
IsWithOrWithout header payloads payload octets = IsFile header payloads octets ⊎ IsFile header (payloads ++ payload ∷ []) octets

-- At whichever moment a crash comes, it leaves a file with the payloads before, or with these and the new one; where the record went through, the file is kept with it.
pub record CommitsRecord (place : ℕ) (payload : List ℕ) (went_through : Bool) (old new : Past) : Type 0 where
  pub any_moment : (header : List ℕ) (payloads : List (List ℕ)) → IsKept header payloads place old → LeavesOnly (IsWithOrWithout header payloads payload) old new
  pub acknowledged : IsTrue went_through → (header : List ℕ) (payloads : List (List ℕ)) → IsKept header payloads place old
      → IsKept header (payloads ++ payload ∷ []) (place + 5 + length payload) new

-- the same, where the disk tells the past
abbrev pub Commits : ℕ → List ℕ → Bool → Option Past → Option Past → Type 0
Commits place payload went_through None new = new ≡ None
Commits place payload went_through (Some old) new = (past : Past) × (new ≡ Some past) × CommitsRecord place payload went_through old past
