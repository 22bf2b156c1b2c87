use Rattle.std.proofs.Common.{◌≡◌, take}
use Rattle.cal_moment.specs.Texts.{digits}
use Rattle.ical_values.proofs.CountPlaces.{GoesOn}
use Rattle.ical_values.proofs.rule_numbers.read_within.Given as goal

-- the number of the digits so far, which goes on
abbrev pub invariant-digits : goal.invariant-digits
invariant-digits l = record {
  spelled : take l.place l.text ≡ digits l.place l.number;
  goes_on : GoesOn l.low l.high l.place l.number;
}
