use Rattle.std.proofs.Common.{◌≡◌, ◌-◌, ◌≤◌, length, take}
use Rattle.cal_base.specs.World.Outside.{Adds}
use Rattle.cal_base.proofs.write_whole.send_all.Given as goal

-- so much of the piece was written, nothing was read, and the count never fell
abbrev pub invariant-sending : goal.invariant-sending
invariant-sending g l = record {
  within : l.done ≤ length l.piece;
  front : Adds (g.L.Link.written l.fn.link) (take l.done l.piece) (g.L.Link.written l.link);
  left : g.L.Link.left l.link ≡ g.L.Link.left l.fn.link;
  allowance : g.L.Link.allowance l.link ≡ g.L.Link.allowance l.fn.link;
  count : g.L.Link.faults l.fn.link ≤ g.L.Link.faults l.link;
}

-- each write takes an octet of the piece
abbrev pub decreases-sending : goal.decreases-sending
decreases-sending g l = length l.piece - l.done
