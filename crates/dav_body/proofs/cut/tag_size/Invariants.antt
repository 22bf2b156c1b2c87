use Rattle.std.proofs.Common.{◌≡◌, ◌≤◌, ◌+◌, ◌-◌, None, length}
use Rattle.cal_base.specs.Xml.XmlMarkup.{tag_size}
use Rattle.dav_body.proofs.cut.tag_size.Given as goal

-- what is passed, and the size of the rest
abbrev pub invariant-octets : goal.invariant-octets
invariant-octets l = record {
  within : length l.rest ≤ length l.text;
  size : (length l.text - length l.rest) + tag_size l.quote l.rest ≡ tag_size None l.text;
}

abbrev pub decreases-octets : goal.decreases-octets
decreases-octets l = length l.rest
