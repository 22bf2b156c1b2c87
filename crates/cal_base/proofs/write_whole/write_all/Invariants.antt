use Rattle.std.proofs.Common.{◌-◌, ◌≤◌, length, take}
use Rattle.cal_base.specs.World.Outside.{Adds}
use Rattle.cal_base.proofs.write_whole.write_all.Given as goal

-- so much of the piece was written, and the count never fell
abbrev pub invariant-writing : goal.invariant-writing
invariant-writing g l = record {
  within : l.done ≤ length l.piece;
  front : Adds (g.K.Sink.written l.fn.sink) (take l.done l.piece) (g.K.Sink.written l.sink);
  count : g.K.Sink.faults l.fn.sink ≤ g.K.Sink.faults l.sink;
}

-- each write takes an octet of the piece
abbrev pub decreases-writing : goal.decreases-writing
decreases-writing g l = length l.piece - l.done
