use Rattle.std.proofs.Common.{◌≡◌, ◌-◌, ◌≤◌, replicate, length}
use Rattle.cal_script.specs.declared.slots.Slot.TheVariants.{Empty}
use Rattle.cal_script.proofs.script.empty_slots.Given as goal

abbrev pub invariant-loop-slots : goal.invariant-loop-slots
invariant-loop-slots l = record { are : l.slots ≡ replicate (length l.slots) Empty; within : length l.slots ≤ 64 }

abbrev pub decreases-loop-slots : goal.decreases-loop-slots
decreases-loop-slots l = 64 - length l.slots
