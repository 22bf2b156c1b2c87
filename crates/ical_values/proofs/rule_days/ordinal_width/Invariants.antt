use Rattle.std.proofs.Common.{take}
use Rattle.ical_values.specs.DayForms.{Low}
use Rattle.ical_values.proofs.rule_days.ordinal_width.Given as goal

abbrev pub invariant-octets : goal.invariant-octets
invariant-octets l = Low (take l.place l.text)
