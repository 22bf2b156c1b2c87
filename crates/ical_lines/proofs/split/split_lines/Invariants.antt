use Rattle.std.proofs.Common.{◌≡◌, ◌≤◌, ◌-◌, length}
use Rattle.cal_base.specs.Texts.Octets.{line_feed}
use Rattle.cal_base.specs.Lines.ContentLines.{pieces, physical_from, groups, read_lines}
use Rattle.ical_lines.specs.GroupReading.{read_groups}
use Rattle.ical_lines.proofs.split.split_lines.Given as goal

-- with the lines that are read the rest is read as the whole
abbrev pub invariant-logical : goal.invariant-logical
invariant-logical l = record {
  within : length l.rest ≤ length l.octets;
  reads : read_groups l.lines (groups (physical_from (length l.octets - length l.rest) (pieces line_feed l.rest))) ≡ read_lines l.octets;
}

abbrev pub decreases-logical : goal.decreases-logical
decreases-logical l = length l.rest
