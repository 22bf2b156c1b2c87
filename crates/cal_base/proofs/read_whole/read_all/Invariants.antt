use Rattle.std.proofs.Common.{◌+◌, ◌<◌, ◌≤◌, ◌^◌, [], length}
use Rattle.cal_base.specs.World.Outside.{Goes}
use Rattle.cal_base.proofs.read_whole.read_all.Given as goal

-- what was taken is what was read, within the limit and all that a source may give, and the count never fell
abbrev pub invariant-reading : goal.invariant-reading
invariant-reading g l = record {
  goes : Goes (g.S.Source.left l.fn.source) (g.S.Source.left l.source) [] l.all;
  within : length l.all ≤ l.fn.limit;
  bounded : 0 < length l.all → length l.all + g.S.Source.allowance l.source ≤ 2 ^ 62;
  count : g.S.Source.faults l.fn.source ≤ g.S.Source.faults l.source;
}

-- each read takes an octet of what may come, or ends the loop
abbrev pub decreases-reading : goal.decreases-reading
decreases-reading g l = g.S.Source.allowance l.source
