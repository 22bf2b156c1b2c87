-- What a write does to the past of a file.
-- Given: the past before it, where the disk tells it.
use Rattle.std.specs.Prelude.{◌≡◌, ℕ, ◌⊎◌, List, length, Option, Some, None}
use Rattle.cal_keeper.specs.Disks.CrashModel.{Past, wrote, reading, IsTorn, with_piece}

-- A piece was written whole.
abbrev pub after_write : ℕ → List ℕ → Past → Past
after_write place piece past = wrote past place (length piece) (with_piece place piece (reading past))

-- A write failed: it did nothing, or its range may hold any octets.
abbrev pub MayTear : ℕ → ℕ → Option Past → Option Past → Type 0
MayTear place count None new = new ≡ None
MayTear place count (Some past) new =
    (new ≡ Some past) ⊎ ((octets : List ℕ) × IsTorn place count (reading past) octets × (new ≡ Some (wrote past place count octets)))
