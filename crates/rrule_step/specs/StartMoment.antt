-- The moment of a start.
use Rattle.std.specs.Prelude.{ℕ, ◌+◌, ◌*◌}
use Rattle.rrule_step.specs.declared.start.Start.{Start}

abbrev pub moment_of : Start → ℕ
moment_of start = 86400 * start.day + start.second
