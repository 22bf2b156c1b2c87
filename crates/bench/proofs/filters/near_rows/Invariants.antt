use Rattle.std.specs.Prelude.{All}
use Rattle.overlap_rules.specs.Bounds.{IsNearRow}
use Rattle.bench.proofs.filters.near_rows.Given as goal

-- the rows so far lie near
abbrev pub invariant-rows : goal.invariant-rows
invariant-rows l = All IsNearRow l.near
