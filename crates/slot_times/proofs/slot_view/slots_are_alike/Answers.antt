use Rattle.slot_times.proofs.SlotLaws.{slots_alike}
use Rattle.slot_times.proofs.slot_view.slots_are_alike.Goals as goal

pub returns : goal.returns
returns c = slots_alike
