-- How connections are shared among sessions, how many were asked for, and what each thread is started with.
use Rattle.std.specs.Prelude.{◌≡◌, ℕ, ◌+◌, ◌-◌, ◌^◌, ◌≤◌, ◌/◌, ◌%◌, Some, false, min, nat_lt, if◌then◌else◌}
use Rattle.atomic_table.specs.Seated.{TableId}
use Rattle.turn_lock.specs.Passes.{PassState}

-- how many of n connections the session i of several serves; the first ones get one more where they do not divide
abbrev pub share_of : ℕ → ℕ → ℕ → ℕ
share_of n sessions i = n / sessions + (if nat_lt i (n % sessions) then 1 else 0)

-- a count that is kept as a u64 rose by n at least, or stands at its last value
abbrev pub RoseBy : ℕ → ℕ → ℕ → Type 0
RoseBy n old new = min (old + n) (2 ^ 64 - 1) ≤ new

-- the pass is of the lock, holds no turn, and knows these users
abbrev pub IsPassFor : {E U : Type 0} → TableId → U → PassState E U → Type 0
IsPassFor lock users pass = (pass.lock ≡ lock) × (pass.holds_turn ≡ false) × (pass.base ≡ Some users)
