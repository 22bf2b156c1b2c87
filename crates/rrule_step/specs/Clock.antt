-- The seconds of a day that three sets hold: hours, minutes and seconds.
use Rattle.std.specs.Prelude.{ℕ, ◌/◌, ◌%◌, Bool, false, if◌then◌else◌}
use Rattle.rrule_step.specs.declared.set.Set.{Set}
use Rattle.rrule_step.specs.Sets.{has}

-- a second of an hour
abbrev pub in_hour : Set → Set → ℕ → Bool
in_hour minutes seconds k = if has minutes (k / 60) then has seconds (k % 60) else false

-- a second of a day
abbrev pub in_day : Set → Set → Set → ℕ → Bool
in_day hours minutes seconds k = if has hours (k / 3600) then in_hour minutes seconds (k % 3600) else false
