use Rattle.std.proofs.Common.{◌≡◌, ◌+◌, length}
use Rattle.cal_base.specs.Xml.XmlFaults.{first_inner}
use Rattle.dav_body.proofs.tag_references.first_inner.Given as goal

-- the rest, at its place, has the fault of the whole
abbrev pub invariant-octets : goal.invariant-octets
invariant-octets l = record {
  place : l.at + length l.rest ≡ l.place + length l.text;
  rest : first_inner l.at l.rest ≡ first_inner l.place l.text;
}

abbrev pub decreases-octets : goal.decreases-octets
decreases-octets l = length l.rest
