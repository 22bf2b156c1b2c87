use Rattle.std.proofs.Common.{◌≡◌, ◌≤◌, ◌+◌, ◌-◌, length}
use Rattle.cal_base.specs.Xml.XmlMarkup.{size_through}
use Rattle.dav_body.proofs.ends.size_through.Given as goal

-- what is passed, and the size of the rest
abbrev pub invariant-places : goal.invariant-places
invariant-places l = record {
  within : length l.rest ≤ length l.text;
  size : (length l.text - length l.rest) + size_through l.end l.rest ≡ size_through l.end l.text;
}

abbrev pub decreases-places : goal.decreases-places
decreases-places l = length l.rest
