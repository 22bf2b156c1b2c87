use Rattle.cal_book.proofs.Answering.HeldCosts.{held_readings_free}
use Rattle.cal_book.proofs.laws.held_readings_are_free.Goals as goal

pub returns : goal.returns
returns c = held_readings_free
