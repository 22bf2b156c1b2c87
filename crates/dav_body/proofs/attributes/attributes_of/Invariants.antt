use Rattle.std.proofs.Common.{◌≡◌, length, None}
use Rattle.cal_base.specs.Xml.XmlMarkup.{attributes_of, quoted_pieces}
use Rattle.dav_body.specs.Splits.{preceded}
use Rattle.dav_body.proofs.attributes.attributes_of.Given as goal

-- those that are read, before those of the rest
abbrev pub invariant-attributes : goal.invariant-attributes
invariant-attributes l = preceded l.attributes (attributes_of (quoted_pieces None l.rest)) ≡ attributes_of (quoted_pieces None l.fn.text)

abbrev pub decreases-attributes : goal.decreases-attributes
decreases-attributes l = length l.rest
