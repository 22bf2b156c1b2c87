use Rattle.std.proofs.Common.{◌≡◌, ◌++◌, length}
use Rattle.rrule_sets.proofs.OnceLemmas.{when_in}
use Rattle.std.specs.Prelude.{flat_map}
use Rattle.rrule_sets.proofs.once.row_in_windows.Given as goal

-- the rows so far, and those of the windows that are left
abbrev pub invariant-windows : goal.invariant-windows
invariant-windows l = l.rows ++ flat_map (when_in l.fn.row l.fn.window) l.rest ≡ flat_map (when_in l.fn.row l.fn.window) l.windows

abbrev pub decreases-windows : goal.decreases-windows
decreases-windows l = length l.rest
