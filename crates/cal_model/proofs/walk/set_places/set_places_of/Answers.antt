use Rattle.cal_model.proofs.Walks.SetPlaceLemmas.{none_marked}
use Rattle.cal_model.proofs.walk.set_places.set_places_of.Goals as goal

pub loop-number-init : goal.loop-number-init
loop-number-init c = record { front = none_marked; back = none_marked }
