use Rattle.std.proofs.Common.{◌≡◌, ◌++◌, length}
use Rattle.cal_base.specs.Xml.XmlBodies.{with_line_feeds}
use Rattle.dav_body.proofs.values.push_with_line_feeds.Given as goal

-- what is shown, before the rest of the text
abbrev pub invariant-octets : goal.invariant-octets
invariant-octets l = l.out ++ with_line_feeds l.rest ≡ l.initial.out ++ with_line_feeds l.text

abbrev pub decreases-octets : goal.decreases-octets
decreases-octets l = length l.rest
