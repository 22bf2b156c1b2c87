use Rattle.std.specs.Prelude.{All}
use Rattle.bench.specs.Entries.{IsEntry}
use Rattle.bench.proofs.filters.entries.Given as goal

-- the objects so far are such
abbrev pub invariant-objects : goal.invariant-objects
invariant-objects l = All IsEntry l.entries
