-- Stamps beside a start, with the zones of an object at hand.
use Rattle.std.specs.Prelude.{ℕ}
use Rattle.cal_moment.specs.declared.stamp.Stamp.{Stamp}
use Rattle.cal_moment.specs.declared.stamp.Stamp.TheVariants.{Floating}
use Rattle.cal_model.specs.Instances.Alignment as spec
pub use Rattle.cal_model.specs.Conversions.ZonesAtHand.{tables_of, HasZone}
use Rattle.cal_object.specs.declared.aligned.Aligned.{Aligned}
use Rattle.cal_object.specs.declared.aligned.Aligned.TheVariants.{At, OnDay}

-- what a stamp says beside a start, as the definition has it
abbrev pub aligned_by : Aligned → spec.Aligned
aligned_by (At value) = spec.at value
aligned_by (OnDay midnight) = spec.on_day midnight

-- the zone in which a stamp is read beside a zoned start is one of so many: its own, or of a floating one that of the start
abbrev pub HasZoneBeside : ℕ → Stamp → Stamp → Type 0
HasZoneBeside zones (Floating local) start = HasZone zones start
HasZoneBeside zones stamp start = HasZone zones stamp
