use Rattle.std.proofs.Common.{◌≡◌, ℕ, ◌<◌, take}
use Rattle.std.specs.Prelude.{◌==◌}
use Rattle.std.specs.List.{list_any}
use Rattle.cal_model.specs.declared.rule.DayPart.{DayPart}
use Rattle.rrule_step.specs.Sets.{has}
use Rattle.rrule_step.proofs.rounds.named_weekdays.Given as goal

-- the weekdays so far
abbrev pub invariant-loop-part : goal.invariant-loop-part
invariant-loop-part l = (i : ℕ) → i < 7 → has l.set i ≡ list_any (λ (part : DayPart). part.weekday == i) (take l.part-index l.part-items)
