use Rattle.std.proofs.Common.{◌≡◌, ◌≤◌, ◌+◌, ◌-◌, length}
use Rattle.std.specs.List.{prefix_len}
use Rattle.cal_base.specs.Xml.XmlMarkup.{is_not_blank}
use Rattle.dav_body.proofs.tags.size_to_blank.Given as goal

abbrev pub invariant-octets : goal.invariant-octets
invariant-octets l = record {
  within : length l.rest ≤ length l.text;
  size : (length l.text - length l.rest) + prefix_len is_not_blank l.rest ≡ prefix_len is_not_blank l.text;
}

abbrev pub decreases-octets : goal.decreases-octets
decreases-octets l = length l.rest
