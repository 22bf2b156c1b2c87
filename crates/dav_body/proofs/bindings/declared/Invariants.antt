use Rattle.std.proofs.Common.{◌≡◌, ◌++◌, drop}
use Rattle.std.specs.Prelude.{filter_map}
use Rattle.cal_base.specs.Xml.XmlScopes.{declared_by}
use Rattle.dav_body.proofs.bindings.declared.Given as goal

-- the bindings so far, before those of the rest
abbrev pub invariant-attributes : goal.invariant-attributes
invariant-attributes l = l.bindings ++ filter_map declared_by (drop l.attribute-index l.attributes) ≡ filter_map declared_by l.attributes
