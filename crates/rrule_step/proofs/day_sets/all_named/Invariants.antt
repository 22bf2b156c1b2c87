use Rattle.std.proofs.Common.{◌≡◌, ℕ, ◌+◌, ◌<◌, take}
use Rattle.cal_model.specs.Words.Integers.{some_names_place}
use Rattle.rrule_step.specs.Sets.{has}
use Rattle.rrule_step.proofs.day_sets.all_named.Given as goal

-- the places of the numbers so far
abbrev pub invariant-loop-number : goal.invariant-loop-number
invariant-loop-number l = (i : ℕ) → i < l.size → has l.set i ≡ some_names_place (take l.number-index l.number-items) (i + 1) l.size
