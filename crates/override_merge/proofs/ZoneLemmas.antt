-- The zones at hand: their offsets are short.
use Rattle.std.proofs.Common.{arith, ℤ, pos, ◌+ℤ◌, ◌-ℤ◌}
use Rattle.std.proofs.lemmas.Int.{ints}
use Rattle.cal_moment.specs.Calendar.{IsBetween}
use Rattle.cal_model.specs.declared.local_times.LocalTimes.{LocalTimes}
use Rattle.cal_model.specs.TimeZones.Zones.{local_at, instant_of}
use Rattle.cal_model.proofs.TimeZones.NearTimes.{HasShortOffsets-table, instant_of-near, local_at-near}

pub shown_near : (times : LocalTimes) (u : ℤ) → IsBetween (u -ℤ pos 86_400) (u +ℤ pos 86_400) (local_at times.table.now u)
shown_near times u = let near = local_at-near times.table.now u (HasShortOffsets-table times.table.now times.zone) in (omega (arith, ints, near), omega (arith, ints, near))

pub instant_near : (times : LocalTimes) (l : ℤ) → IsBetween (l -ℤ pos 86_400) (l +ℤ pos 86_400) (instant_of times.table.now l)
instant_near times l = let near = instant_of-near times.table.now l (HasShortOffsets-table times.table.now times.zone) in (omega (arith, ints, near), omega (arith, ints, near))
