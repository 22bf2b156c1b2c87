use Rattle.std.proofs.Common.{◌≡◌, ◌+◌, ◌≤◌, ◌++◌, length, map}
use Rattle.std.specs.Prelude.{All, sum}
use Rattle.override_merge.specs.Conversions.{tables_of}
use Rattle.rrule_sets.specs.declared.windows.Needed.{Needed}
use Rattle.rrule_sets.specs.SeveralWindows.{HasNeeded, looks_of}
use Rattle.rrule_sets.proofs.windows.needed_of_each.Given as goal

-- what the windows so far need; the steps so far, and those for the windows that are left
abbrev pub invariant-windows : goal.invariant-windows
invariant-windows g l = record {
  done : map (λ (n : Needed). n.window) l.each ++ l.rest ≡ l.windows;
  needed : All (HasNeeded (tables_of l.zones) l.ids l.components) l.each;
  counted : l.steps + sum (map (looks_of l.components) l.rest) ≤ l.initial.steps + sum (map (looks_of l.components) l.windows);
}

abbrev pub decreases-windows : goal.decreases-windows
decreases-windows g l = length l.rest
