use Rattle.std.proofs.Common.{◌≡◌, ◌<◌, ◌^◌, drop}
use Rattle.cal_base.specs.Xml.XmlMarkup.{number_of_digits}
use Rattle.http_wire.proofs.DigitLemmas.{number_behind}
use Rattle.http_wire.proofs.digits.number.Given as goal

abbrev pub invariant-digits : goal.invariant-digits
invariant-digits l = record {
  stands : number_of_digits l.base l.digits ≡ number_behind l.base l.number (drop l.place l.digits);
  fits : l.number < l.base ^ l.place;
}
