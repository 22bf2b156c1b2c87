use Rattle.std.proofs.Common.{◌≡◌, map, take}
use Rattle.dav_body.specs.Pairs.{attribute_key}
use Rattle.dav_body.proofs.resolve.attribute_keys.Given as goal

-- the keys of the attributes so far
abbrev pub invariant-attrs : goal.invariant-attrs
invariant-attrs l = l.keys ≡ map attribute_key (take l.attr-index l.attrs)
