use Rattle.std.proofs.Common.{◌≡◌, length}
use Rattle.cal_base.specs.Xml.XmlMarkup.{holds}
use Rattle.dav_body.proofs.ends.holds.Given as goal

-- what stands in the rest stands in the whole, and not before
abbrev pub invariant-places : goal.invariant-places
invariant-places l = holds l.part l.rest ≡ holds l.part l.text

abbrev pub decreases-places : goal.decreases-places
decreases-places l = length l.rest
