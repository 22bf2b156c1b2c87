use Rattle.std.proofs.Common.{◌≡◌, ◌≤◌, length}
use Rattle.cal_model.specs.Streams.Heads.{without_empty_lines}
use Rattle.http_wire.proofs.search.behind_empty_lines.Given as goal

abbrev pub invariant-skip : goal.invariant-skip
invariant-skip l = record {
  same : without_empty_lines l.octets ≡ without_empty_lines l.rest;
  within : length l.rest ≤ length l.octets;
}

abbrev pub decreases-skip : goal.decreases-skip
decreases-skip l = length l.rest
