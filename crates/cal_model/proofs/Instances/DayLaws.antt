-- The local day of some digits begins at or before them, and the next one after them, also before the year 0.
use Rattle.std.proofs.Common.{◌≡◌, ◌*◌, arith, ℤ, pos, negsuc, ◌+ℤ◌, ◌*ℤ◌, ◌≤ℤ◌, ◌<ℤ◌}
use Rattle.std.proofs.lemmas.Int.{ints}
use Rattle.cal_model.specs.Instances.Alignment.{midnight_of}

-- digits lie in the day that begins at their midnight
pub midnight_of-holds : (l : ℤ) → (midnight_of l ≤ℤ l) × (l <ℤ (midnight_of l +ℤ pos 86400))
midnight_of-holds (pos a) = (omega (arith, ints), omega (arith, ints))
midnight_of-holds (negsuc a) = (omega (arith, ints), omega (arith, ints))

-- a day has one midnight
pub midnight_of-is : (l day : ℤ) → (day *ℤ pos 86400) ≤ℤ l → l <ℤ (day *ℤ pos 86400 +ℤ pos 86400) → midnight_of l ≡ day *ℤ pos 86400
midnight_of-is l day from to =
    let holds = midnight_of-holds l in
    omega (arith, ints, holds, from, to)
