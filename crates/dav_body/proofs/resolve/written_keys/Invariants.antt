use Rattle.std.proofs.Common.{◌≡◌, map, take}
use Rattle.dav_body.specs.Pairs.{written_key}
use Rattle.dav_body.proofs.resolve.written_keys.Given as goal

-- the keys of the attributes so far
abbrev pub invariant-attributes : goal.invariant-attributes
invariant-attributes l = l.keys ≡ map written_key (take l.attribute-index l.attributes)
