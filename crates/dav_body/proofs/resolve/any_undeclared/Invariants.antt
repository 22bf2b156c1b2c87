use Rattle.std.proofs.Common.{◌≡◌, drop}
use Rattle.dav_body.specs.Tags.{scope_within, any_undeclared}
use Rattle.dav_body.proofs.resolve.any_undeclared.Given as goal

-- the attributes to come decide as all do
abbrev pub invariant-attributes : goal.invariant-attributes
invariant-attributes l = any_undeclared (scope_within l.tag l.around) (drop l.attribute-index l.attributes) ≡ any_undeclared (scope_within l.tag l.around) l.attributes
