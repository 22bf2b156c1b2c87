use Rattle.std.proofs.Common.{◌≡◌, ◌++◌, length}
use Rattle.dav_body.specs.Pairs.{pair_key}
use Rattle.dav_body.proofs.resolve.pair_key.Given as goal

-- what is written, before the key of the rest
abbrev pub invariant-octets : goal.invariant-octets
invariant-octets l = l.key ++ pair_key l.rest l.second ≡ pair_key l.first l.second

abbrev pub decreases-octets : goal.decreases-octets
decreases-octets l = length l.rest
