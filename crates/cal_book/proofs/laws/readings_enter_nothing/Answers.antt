use Rattle.cal_book.proofs.EventLemmas.{readings-enter_nothing}
use Rattle.cal_book.proofs.laws.readings_enter_nothing.Goals as goal

pub returns : goal.returns
returns c = readings-enter_nothing
