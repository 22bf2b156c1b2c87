use Rattle.std.proofs.Common.{◌≡◌, ◌++◌, length, map}
use Rattle.rrule_sets.specs.declared.placed.Placed.{Placed}
use Rattle.rrule_sets.proofs.placed.rows_of.Given as goal

-- the rows so far, and those that are left
abbrev pub invariant-rows : goal.invariant-rows
invariant-rows l = record { made : l.rows ++ map (λ (p : Placed). p.row) l.rest ≡ map (λ (p : Placed). p.row) l.placed }

abbrev pub decreases-rows : goal.decreases-rows
decreases-rows l = length l.rest
