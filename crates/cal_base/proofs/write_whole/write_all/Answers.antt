use Rattle.std.proofs.Common.{ap, arith, length, length-drop}
use Rattle.cal_base.proofs.World.Taking.{Adds-next}
use Rattle.cal_base.proofs.write_whole.write_all.Goals as goal

pub writing-preserved : goal.writing-preserved
writing-preserved g c = record {
  within = omega (arith, c.in_ok-done.ensures.within, ap length c.behind.ensures, length-drop c.writing.done c.args.piece.now);
  front = Adds-next _ _ _ c.args.piece.now _ c.writing.done c.in_ok-done.field-0 c.behind.ensures c.writing.invariant.front c.in_ok-done.ensures.added;
  count = omega arith;
}
