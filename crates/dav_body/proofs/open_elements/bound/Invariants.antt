use Rattle.std.proofs.Common.{◌≡◌, ◌≤◌, ◌-◌, map, length}
use Rattle.cal_base.specs.Xml.XmlScopes.{space_of}
use Rattle.dav_body.specs.Reading.{scope_of}
use Rattle.dav_body.specs.OpenParts.{open_part}
use Rattle.dav_body.proofs.Bound.{scope_behind}
use Rattle.dav_body.proofs.open_elements.bound.Given as goal

-- the elements from a depth on decide as all do
abbrev pub invariant-open : goal.invariant-open
invariant-open l = record {
  within : l.depth ≤ length l.around;
  rest : space_of (scope_behind l.depth l.around) l.prefix ≡ space_of (scope_of (map open_part l.around)) l.prefix;
}

abbrev pub decreases-open : goal.decreases-open
decreases-open l = length l.around - l.depth
