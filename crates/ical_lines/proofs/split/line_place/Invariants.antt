use Rattle.std.proofs.Common.{◌≡◌, ◌≤◌, ◌-◌, length}
use Rattle.cal_base.specs.Texts.Octets.{line_feed}
use Rattle.cal_base.specs.Lines.ContentLines.{pieces, physical_from, groups}
use Rattle.ical_lines.specs.GroupReading.{place_among}
use Rattle.ical_lines.proofs.split.line_place.Given as goal

-- what is left to be passed over leads to the place in the rest
abbrev pub invariant-logical : goal.invariant-logical
invariant-logical l = record {
  within : length l.rest ≤ length l.octets;
  places : place_among l.number (groups (physical_from 0 (pieces line_feed l.octets))) ≡ place_among l.left (groups (physical_from (length l.octets - length l.rest) (pieces line_feed l.rest)));
}

abbrev pub decreases-logical : goal.decreases-logical
decreases-logical l = length l.rest
