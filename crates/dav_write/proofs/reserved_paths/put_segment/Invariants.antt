use Rattle.std.proofs.Common.{◌≡◌, ◌≤◌, ◌+◌, ◌*◌, ◌++◌, drop}
use Rattle.cal_model.specs.Replies.Hrefs.{segment}
use Rattle.dav_write.proofs.reserved_paths.put_segment.Given as goal

-- with the segment of the octets to come, the buffer will hold the whole segment; there is room for three of each
abbrev pub invariant-octets : goal.invariant-octets
invariant-octets l = record {
  items : l.out.items ++ segment (drop l.octet-index l.name) ≡ l.initial.out.items ++ segment l.name;
  room : l.initial.out.room ≤ l.out.room + 3 * l.octet-index;
}
