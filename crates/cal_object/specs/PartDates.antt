-- Stamps whose digits can be made: a moment in UTC is one of the years 1 to 9999, as each is that was read.
use Rattle.cal_moment.specs.Calendar.{IsCalendarMoment}
use Rattle.cal_moment.specs.declared.stamp.Period.{Period}
use Rattle.cal_moment.specs.declared.stamp.Stamp.{Stamp}
use Rattle.cal_moment.specs.declared.stamp.Stamp.TheVariants.{Date, Floating, Zoned, Utc}

abbrev pub HasMoment : Stamp → Type 0
HasMoment (Utc moment) = IsCalendarMoment moment.0
HasMoment (Date day) = Unit {0}
HasMoment (Floating local) = Unit {0}
HasMoment (Zoned local zone) = Unit {0}

abbrev pub StartsAtMoment : Period → Type 0
StartsAtMoment period = HasMoment period.start
