use Rattle.std.proofs.Common.{◌≡◌, ℕ, ◌<◌, take}
use Rattle.cal_model.specs.Words.Lists.{has_number}
use Rattle.rrule_step.specs.Sets.{has}
use Rattle.rrule_step.proofs.parts.numbers_of.Given as goal

-- the numbers so far
abbrev pub invariant-loop-number : goal.invariant-loop-number
invariant-loop-number l = (i : ℕ) → i < 64 → has l.set i ≡ has_number (take l.number-index l.number-items) i
