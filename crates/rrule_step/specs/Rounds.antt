-- Hours by their place in the week.
use Rattle.std.specs.Prelude.{ℕ, ◌+◌, ◌/◌, ◌%◌, Bool, false, if◌then◌else◌}
use Rattle.rrule_step.specs.declared.set.Set.{Set}
use Rattle.rrule_step.specs.Sets.{has}

-- an hour, counted over all days, is one of some hours on one of some weekdays
abbrev pub is_met : Set → Set → ℕ → Bool
is_met hours weekdays hour = if has weekdays ((hour % 168 / 24 + 5) % 7) then has hours (hour % 168 % 24) else false
