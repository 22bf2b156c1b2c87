use Rattle.std.proofs.Common.{◌≡◌, ◌-◌, ◌≤◌, length}
use Rattle.cal_base.specs.Lines.ContentLines.{pieces}
use Rattle.cal_base.specs.Texts.Octets.{line_feed}
use Rattle.privileges.specs.LineReading.{read_on}
use Rattle.privileges.proofs.reading.read_lines.Given as goal

abbrev pub invariant-lines : goal.invariant-lines
invariant-lines l = record {
  within : length l.rest ≤ length l.octets;
  on : read_on l.fn.users 0 (pieces line_feed l.octets) ≡ read_on l.users (length l.octets - length l.rest) (pieces line_feed l.rest);
}

abbrev pub decreases-lines : goal.decreases-lines
decreases-lines l = length l.rest
