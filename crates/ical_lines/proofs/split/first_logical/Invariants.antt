use Rattle.std.proofs.Common.{◌≡◌, ◌<◌, ◌+◌, ◌-◌, ℕ, length}
use Rattle.cal_base.specs.Texts.Octets.{line_feed}
use Rattle.cal_base.specs.Lines.ContentLines.{pieces, physical_from, groups}
use Rattle.ical_lines.specs.GroupReading.{place_among, place_open}
use Rattle.ical_lines.proofs.split.first_logical.Given as goal

-- with the logical line so far the places of the rest are those of the whole
abbrev pub invariant-more : goal.invariant-more
invariant-more l = record {
  shorter : length l.rest < length l.octets;
  places : (number place : ℕ) → place_among number (groups (physical_from place (pieces line_feed l.octets))) ≡ place_open number place l.has_text (groups (physical_from (place + (length l.octets - length l.rest)) (pieces line_feed l.rest)));
}

abbrev pub decreases-more : goal.decreases-more
decreases-more l = length l.rest
