use Rattle.std.proofs.Common.{subst, sym}
use Rattle.bench.specs.Entries.{IsEntry}
use Rattle.bench.proofs.filters.matching.Goals as goal

pub is_matching-requires-clause-entry : goal.is_matching-requires-clause-entry
is_matching-requires-clause-entry c = subst IsEntry (sym c.entry-item.is) (c.requires.entries c.loop-entry.entry-index c.entry-item.result c.loop-entry-test.true)
