use Rattle.std.proofs.Common.{◌≡◌}
use Rattle.collections.proofs.zone_pool.ZonePool.share_tables.Given as goal

-- each table so far was given back as it was
abbrev pub invariant-loop-place : goal.invariant-loop-place
invariant-loop-place l = l.tables ≡ l.fn.tables
