use Rattle.std.proofs.Common.{◌≡◌, ◌++◌, drop, length, take}
use Rattle.cal_model.specs.Replies.Hrefs.{segment}
use Rattle.dav_write.proofs.paths.push_segment.Given as goal

-- with the segment of the octets to come, the buffer will hold the whole segment
abbrev pub invariant-octets : goal.invariant-octets
invariant-octets l = record {
  text : l.out ++ segment (drop l.octet-index l.name) ≡ l.initial.out ++ segment l.name;
  front : take (length l.initial.out) l.out ≡ l.initial.out;
}
