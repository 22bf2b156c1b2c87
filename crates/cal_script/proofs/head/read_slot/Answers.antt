use Rattle.std.proofs.Common.{arith}
use Rattle.cal_script.proofs.HeadLemmas.{no_slot_by_bound}
use Rattle.cal_script.proofs.head.read_slot.Goals as goal

pub returns-then-slot-gt-LAST_SLOT : goal.returns-then-slot-gt-LAST_SLOT
returns-then-slot-gt-LAST_SLOT c = no_slot_by_bound c.args.text.now c.in-Some.slot c.in-Some.ensures (omega arith) (omega arith)
