-- Conversions by a table stay within a day, and a written end is the end.
use Rattle.std.proofs.Common.{◌≡◌, ◌⊎◌, inl, inr, List, arith, ℤ, pos, ◌+ℤ◌, ◌-ℤ◌}
use Rattle.std.proofs.lemmas.Int.{ints}
use Rattle.cal_moment.specs.Calendar.{IsBetween}
use Rattle.cal_moment.specs.declared.stamp.Stamp.{Stamp}
use Rattle.cal_model.specs.declared.object.Extent.{Extent}
use Rattle.cal_model.specs.declared.object.Extent.TheVariants as extent
use Rattle.cal_model.specs.declared.zone.ZoneTable.{ZoneTable}
use Rattle.cal_model.specs.Instances.Alignment.{value_of}
use Rattle.cal_model.specs.Instances.Starts.{end_of_extent}
use Rattle.cal_model.specs.TimeZones.TableBounds.{IsTable}
use Rattle.cal_model.specs.TimeZones.Zones.{local_at, instant_of}
use Rattle.cal_model.proofs.TimeZones.NearTimes.{HasShortOffsets-table, instant_of-near, local_at-near}

pub shown_near : (table : ZoneTable) (u : ℤ) → IsTable table → IsBetween (u -ℤ pos 86_400) (u +ℤ pos 86_400) (local_at table u)
shown_near table u is = let near = local_at-near table u (HasShortOffsets-table table is) in (omega (arith, ints, near), omega (arith, ints, near))

pub instant_near : (table : ZoneTable) (l : ℤ) → IsTable table → IsBetween (l -ℤ pos 86_400) (l +ℤ pos 86_400) (instant_of table l)
instant_near table l is = let near = instant_of-near table l (HasShortOffsets-table table is) in (omega (arith, ints, near), omega (arith, ints, near))

-- of a component that starts at its own start
pub end_written : (zones : List ZoneTable) (s e : Stamp) (said : Extent) (r : ℤ) → (said ≡ extent.End e) ⊎ (said ≡ extent.Due e) → r ≡ value_of zones s → value_of zones e ≡ end_of_extent zones s said r
end_written zones s e said r (inl is) own = rw is (omega (arith, ints, own))
end_written zones s e said r (inr is) own = rw is (omega (arith, ints, own))
