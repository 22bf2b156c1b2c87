-- The last moment that a rule may give, of a stamp that is read without a zone (RFC 5545, 3.3.10).
use Rattle.cal_moment.specs.declared.stamp.Stamp.{Stamp}
use Rattle.cal_moment.specs.declared.stamp.Stamp.TheVariants.{Date, Floating, Zoned, Utc}
use Rattle.cal_model.specs.declared.rule.Until.{Until}
use Rattle.cal_model.specs.declared.rule.Until.TheVariants.{Day as UntilDay, Local as UntilLocal, Utc as UntilUtc}

abbrev pub until_at : Stamp → Until
until_at (Date day) = UntilDay day
until_at (Floating local) = UntilLocal local
until_at (Zoned local number) = UntilLocal local
until_at (Utc moment) = UntilUtc moment
