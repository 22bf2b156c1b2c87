use Rattle.std.proofs.Common.{◌≡◌, ◌<◌, ◌+◌, ◌-◌, List, length}
use Rattle.cal_base.specs.declared.line.Line.{Line}
use Rattle.cal_base.specs.Texts.Octets.{line_feed}
use Rattle.cal_base.specs.Lines.ContentLines.{pieces, physical_from, groups}
use Rattle.ical_lines.specs.GroupReading.{read_groups, read_open}
use Rattle.ical_lines.proofs.split.take_logical.Given as goal

-- with the logical line so far the rest is read as the whole
abbrev pub invariant-folds : goal.invariant-folds
invariant-folds l = record {
  shorter : length l.rest < length l.octets;
  reads : (done : List Line) → read_groups done (groups (physical_from l.place (pieces line_feed l.octets))) ≡ read_open done l.place l.raw l.refused (groups (physical_from (l.place + (length l.octets - length l.rest)) (pieces line_feed l.rest)));
}

abbrev pub decreases-folds : goal.decreases-folds
decreases-folds l = length l.rest
