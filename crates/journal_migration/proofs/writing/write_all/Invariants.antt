use Rattle.std.proofs.Common.{take, ◌≤◌}
use Rattle.journal_migration.specs.Writing.{IsDraftSoFar}
use Rattle.journal_migration.proofs.writing.write_all.Given as goal

abbrev pub invariant-entries : goal.invariant-entries
invariant-entries g l = record {
  so_far : IsDraftSoFar g.D.Disk.past l.users (take l.number l.book.work.journal) l.fn.begun l.draft;
  never_falls : g.D.Disk.faults l.fn.begun.disk ≤ g.D.Disk.faults l.draft.disk;
}
