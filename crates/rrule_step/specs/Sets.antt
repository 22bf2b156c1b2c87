-- What a set of numbers has.
use Rattle.std.specs.Prelude.{ℕ, Bool, ◌==◌}
use Rattle.std.specs.Int.{bit_at}
use Rattle.rrule_step.specs.declared.set.Set.{Set}

-- a number is in a set
unfoldable pub has : Set → ℕ → Bool
has set i = bit_at set.0 i == 1
