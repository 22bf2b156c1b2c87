use Rattle.std.proofs.Common.{◌≡◌, ◌++◌, length}
use Rattle.cal_base.specs.Xml.XmlScopes.{value_octets}
use Rattle.dav_body.proofs.values.value_octets.Given as goal

-- what is replaced, before the rest of the value
abbrev pub invariant-pieces : goal.invariant-pieces
invariant-pieces l = l.out ++ value_octets l.rest ≡ value_octets l.value

abbrev pub decreases-pieces : goal.decreases-pieces
decreases-pieces l = length l.rest
