use Rattle.std.proofs.Common.{◌≡◌, ◌++◌, drop}
use Rattle.std.specs.List.{enumerate_from, flat_map}
use Rattle.cal_base.specs.Xml.CanonicalXml.{written_attribute, written_attributes}
use Rattle.dav_write.proofs.tags.push_attributes.Given as goal

-- with those to come, the buffer will hold all attributes
abbrev pub invariant-attributes : goal.invariant-attributes
invariant-attributes l = l.out ++ flat_map written_attribute (enumerate_from l.place (drop l.place l.attrs)) ≡ l.initial.out ++ written_attributes l.attrs
