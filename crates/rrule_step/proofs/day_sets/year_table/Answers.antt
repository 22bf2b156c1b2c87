use Rattle.rrule_step.proofs.DaySetLemmas.{none_marked}
use Rattle.rrule_step.proofs.day_sets.year_table.Goals as goal

pub loop-number-init : goal.loop-number-init
loop-number-init c = λ i lt. none_marked i
