use Rattle.std.proofs.Common.{◌≡◌, ◌-◌, ◌≤◌, ◌^◌}
use Rattle.journal_migration.specs.Carrying.{IsReadInto}
use Rattle.journal_migration.proofs.carrying.read_all.Given as goal

abbrev pub invariant-records : goal.invariant-records
invariant-records g l = record {
  read : IsReadInto g.D.Disk.past l.old_users l.new_users l.books l.reader;
  past_kept : g.D.Disk.past l.reader.disk ≡ g.D.Disk.past l.fn.first.disk;
  never_falls : g.D.Disk.faults l.fn.first.disk ≤ g.D.Disk.faults l.reader.disk;
}

-- a reader goes on in its file
abbrev pub decreases-records : goal.decreases-records
decreases-records g l = 2 ^ 64 - l.reader.place
