use Rattle.std.proofs.Common.{◌≡◌, ℕ, ◌+◌, ◌*◌, ◌<◌, false}
use Rattle.rrule_step.specs.Rounds.{is_met}
use Rattle.rrule_step.proofs.rounds.meets.Given as goal

-- none of the hours so far
abbrev pub invariant-loop-q : goal.invariant-loop-q
invariant-loop-q l = (k : ℕ) → k < l.q → is_met l.hours l.weekdays (l.first + l.interval * k) ≡ false
