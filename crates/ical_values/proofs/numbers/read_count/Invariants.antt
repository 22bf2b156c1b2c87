use Rattle.std.proofs.Common.{◌≡◌, ◌<◌, ◌^◌, take}
use Rattle.cal_moment.specs.Texts.{digits}
use Rattle.ical_values.proofs.numbers.read_count.Given as goal

-- the number of the digits so far
abbrev pub invariant-digits : goal.invariant-digits
invariant-digits l = record {
  spelled : take l.place l.text ≡ digits l.place l.number;
  fits : l.number < 10 ^ l.place;
}
