use Rattle.std.proofs.Common.{◌≡◌, ◌≤◌, ◌-◌, length}
use Rattle.std.specs.Prelude.{filter_map}
use Rattle.cal_base.specs.Xml.XmlMarkup.{markups, markup_of}
use Rattle.cal_base.specs.Xml.XmlFaults.{body_fault}
use Rattle.cal_base.specs.Xml.XmlBodies.{body_element}
use Rattle.dav_body.specs.Keeping.{fault_with, element_with}
use Rattle.dav_body.specs.Kept.{kept_of}
use Rattle.dav_body.proofs.read.read.Given as goal

-- the fault and the element of the body are those of the rest, with what is kept
abbrev pub invariant-markups : goal.invariant-markups
invariant-markups l = record {
  within : length l.rest ≤ length l.octets;
  faults : fault_with (length l.octets) (kept_of l.progress) (length l.octets - length l.rest) (markups l.rest) ≡ body_fault l.octets;
  elements : element_with (kept_of l.progress) (filter_map markup_of (markups l.rest)) ≡ body_element l.octets;
}

abbrev pub decreases-markups : goal.decreases-markups
decreases-markups l = length l.rest
