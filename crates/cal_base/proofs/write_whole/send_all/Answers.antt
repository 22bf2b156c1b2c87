use Rattle.std.proofs.Common.{ap, arith, length, length-drop}
use Rattle.cal_base.proofs.World.Taking.{Adds-next}
use Rattle.cal_base.proofs.write_whole.send_all.Goals as goal

pub sending-preserved : goal.sending-preserved
sending-preserved g c = record {
  within = omega (arith, c.in_ok-done.ensures.within, ap length c.behind.ensures, length-drop c.sending.done c.args.piece.now);
  front = Adds-next _ _ _ c.args.piece.now _ c.sending.done c.in_ok-done.field-0 c.behind.ensures c.sending.invariant.front c.in_ok-done.ensures.added;
  left = cc;
  allowance = cc;
  count = omega arith;
}
