use Rattle.std.proofs.Common.{◌≡◌, length}
use Rattle.cal_base.specs.Xml.XmlFaults.{encoding_name}
use Rattle.dav_body.proofs.front.encoding_name.Given as goal

-- the rest names what the whole names
abbrev pub invariant-places : goal.invariant-places
invariant-places l = encoding_name l.rest ≡ encoding_name l.text

abbrev pub decreases-places : goal.decreases-places
decreases-places l = length l.rest
