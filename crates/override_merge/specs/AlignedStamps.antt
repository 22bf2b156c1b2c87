-- What a stamp says beside a start, as a value of the program.
use Rattle.cal_model.specs.Instances.Alignment as spec
use Rattle.override_merge.specs.Conversions.{IsRowTime}
use Rattle.override_merge.specs.declared.stamps.Aligned.{Aligned}
use Rattle.override_merge.specs.declared.stamps.Aligned.TheVariants.{At, OnDay}

abbrev pub aligned_by : Aligned → spec.Aligned
aligned_by (At value) = spec.at value
aligned_by (OnDay midnight) = spec.on_day midnight

-- the midnight of a local day is a time of a row
abbrev pub HasDigits : Aligned → Type 0
HasDigits (OnDay midnight) = IsRowTime midnight
HasDigits other = Unit {0}
