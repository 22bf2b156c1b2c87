-- The start that an RDATE gives lies near its digits.
use Rattle.std.proofs.Common.{List, [], ◌∷◌, arith, ℤ, pos, neg_ℤ, ◌+ℤ◌, ◌-ℤ◌}
use Rattle.std.specs.Prelude.{All}
use Rattle.std.proofs.lemmas.Int.{ints}
use Rattle.std.proofs.lemmas.List.Elements.{All-nil, All-cons}
use Rattle.cal_moment.specs.Calendar.{IsBetween}
use Rattle.cal_moment.specs.declared.stamp.Stamp.{Stamp}
use Rattle.cal_moment.specs.declared.stamp.Stamp.TheVariants.{Date, Floating, Zoned, Utc}
use Rattle.cal_model.specs.declared.local_times.LocalTimes.{LocalTimes}
use Rattle.cal_model.specs.declared.zone.ZoneTable.{ZoneTable}
use Rattle.cal_model.specs.Ranges.Nearness.{HasShortOffsets}
use Rattle.cal_model.specs.Instances.Alignment.{written_value, value_of, midnight_of, reading_of}
use Rattle.cal_model.specs.Instances.Starts.{date_start}
use Rattle.cal_model.proofs.Instances.DayLaws.{midnight_of-holds}
use Rattle.cal_model.proofs.Ranges.RowBounds.{instant-near}
use Rattle.cal_model.proofs.TimeZones.NearTimes.{HasShortOffsets-table}
use Rattle.override_merge.specs.Conversions.{tables_of, IsRowTime}

pub short_tables : (zones : List LocalTimes) → All HasShortOffsets (tables_of zones)
short_tables [] = All-nil HasShortOffsets
short_tables (z ∷ zs) = All-cons HasShortOffsets z.table.now (tables_of zs) (HasShortOffsets-table z.table.now z.zone) (short_tables zs)

-- not much farther from 1970 than a row
abbrev pub IsNearRow : ℤ → Type 0
IsNearRow = IsBetween (neg_ℤ (pos 1_200_000_000_000)) (pos 1_200_000_000_000)

pub near_instant : (zones : List ZoneTable) (s : Stamp) (l : ℤ) → All HasShortOffsets zones → IsBetween (neg_ℤ (pos 1_150_000_000_000)) (pos 1_150_000_000_000) l → IsNearRow ((reading_of zones s).instant l)
near_instant zones s l short near = let by = instant-near zones s l short in (omega (arith, ints, by, near), omega (arith, ints, by, near))

near_time : (d w : ℤ) → IsRowTime d → IsBetween (neg_ℤ (pos 1_150_000_000_000)) (pos 1_150_000_000_000) (d +ℤ (w -ℤ midnight_of w))
near_time d w near = let day = midnight_of-holds w in (omega (arith, ints, day, near), omega (arith, ints, day, near))

wider : (z : ℤ) → IsBetween (neg_ℤ (pos 1_150_000_000_000)) (pos 1_150_000_000_000) z → IsNearRow z
wider z near = (omega (arith, ints, near), omega (arith, ints, near))

row_time : (z : ℤ) → IsRowTime z → IsBetween (neg_ℤ (pos 1_150_000_000_000)) (pos 1_150_000_000_000) z
row_time z near = (omega (arith, ints, near), omega (arith, ints, near))

pub value_near : (zones : List ZoneTable) (s : Stamp) → All HasShortOffsets zones → IsRowTime (written_value s) → IsNearRow (value_of zones s)
value_near zones s short near = near_instant zones s (written_value s) short (row_time (written_value s) near)

pub date_start_near : (zones : List ZoneTable) (s x : Stamp) → All HasShortOffsets zones → IsRowTime (written_value x) → IsNearRow (date_start zones s x)
date_start_near zones (Date d) x short near = let day = midnight_of-holds (written_value x) in (omega (arith, ints, day, near), omega (arith, ints, day, near))
date_start_near zones (Floating l) (Date d) short near = wider _ (near_time (written_value (Date d)) (written_value (Floating l)) near)
date_start_near zones (Floating l) (Floating x) short near = wider _ (row_time (written_value (Floating x)) near)
date_start_near zones (Floating l) (Zoned x number) short near = wider _ (row_time (written_value (Zoned x number)) near)
date_start_near zones (Floating l) (Utc u) short near = wider _ (row_time (written_value (Utc u)) near)
date_start_near zones (Zoned l zone) (Date d) short near =
    near_instant zones (Zoned l zone) (written_value (Date d) +ℤ (written_value (Zoned l zone) -ℤ midnight_of (written_value (Zoned l zone)))) short (near_time (written_value (Date d)) (written_value (Zoned l zone)) near)
date_start_near zones (Zoned l zone) (Floating x) short near = near_instant zones (Zoned l zone) (written_value (Floating x)) short (row_time (written_value (Floating x)) near)
date_start_near zones (Zoned l zone) (Zoned x other) short near = value_near zones (Zoned x other) short near
date_start_near zones (Zoned l zone) (Utc u) short near = wider _ (row_time (written_value (Utc u)) near)
date_start_near zones (Utc v) (Date d) short near = wider _ (near_time (written_value (Date d)) (written_value (Utc v)) near)
date_start_near zones (Utc v) (Floating x) short near = wider _ (row_time (written_value (Floating x)) near)
date_start_near zones (Utc v) (Zoned x other) short near = value_near zones (Zoned x other) short near
date_start_near zones (Utc v) (Utc u) short near = wider _ (row_time (written_value (Utc u)) near)
