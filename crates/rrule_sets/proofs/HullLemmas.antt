-- Where a start lies, by another clock, that an override by a local day means.
use Rattle.std.proofs.Common.{◌≡◌, arith, List, ℤ}
use Rattle.std.specs.Prelude.{All}
use Rattle.std.proofs.lemmas.Int.{ints}
use Rattle.cal_moment.specs.declared.stamp.Stamp.{Stamp}
use Rattle.cal_model.specs.declared.zone.ZoneTable.{ZoneTable}
use Rattle.cal_model.specs.Instances.Alignment.{midnight_of, reading_of}
use Rattle.cal_model.specs.Ranges.Nearness.{HasShortOffsets}
use Rattle.cal_model.proofs.Instances.DayLaws.{midnight_of-holds}
use Rattle.cal_model.proofs.Ranges.RowBounds.{instant-near, local-near}
use Rattle.rrule_sets.specs.MovedStarts.{IsBeside}

pub beside-on_day : (zones : List ZoneTable) (ids s : Stamp) (midnight r : ℤ) → All HasShortOffsets zones → midnight ≡ midnight_of ((reading_of zones ids).local r) → IsBeside midnight ((reading_of zones s).local r)
beside-on_day zones ids s midnight r short e =
    let by_ids = local-near zones ids r short in
    let by_start = local-near zones s r short in
    let holds = midnight_of-holds ((reading_of zones ids).local r) in
    record { from = omega (arith, ints, by_ids, by_start, holds, e); to = omega (arith, ints, by_ids, by_start, holds, e) }

-- and so does the moment that stands for the day where no start lies on it
pub beside-midnight : (zones : List ZoneTable) (ids s : Stamp) (midnight : ℤ) → All HasShortOffsets zones → IsBeside midnight ((reading_of zones s).local ((reading_of zones ids).instant midnight))
beside-midnight zones ids s midnight short =
    let there = instant-near zones ids midnight short in
    let by_start = local-near zones s ((reading_of zones ids).instant midnight) short in
    record { from = omega (arith, ints, there, by_start); to = omega (arith, ints, there, by_start) }
