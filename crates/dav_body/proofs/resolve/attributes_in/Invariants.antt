use Rattle.std.proofs.Common.{◌≡◌, ◌++◌, drop}
use Rattle.cal_base.specs.Xml.XmlScopes.{attributes_in}
use Rattle.dav_body.specs.Tags.{scope_within, attrs_of}
use Rattle.dav_body.proofs.resolve.attributes_in.Given as goal

-- the attributes so far, before those of the rest
abbrev pub invariant-attributes : goal.invariant-attributes
invariant-attributes l = l.attrs ++ attrs_of (scope_within l.tag l.around) (drop l.attribute-index l.attributes) ≡ attributes_in (scope_within l.tag l.around) l.tag
