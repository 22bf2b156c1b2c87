use Rattle.std.proofs.Common.{Result, subst}
use Rattle.journal_migration.specs.Carrying.{IsReadFrom}
use Rattle.journal_migration.specs.Renumbering.{moved_entries}
use Rattle.journal_migration.specs.declared.migrating.Migrated.{Migrated}
use Rattle.journal_migration.proofs.MigrateLaws.{over_nothing, stops, unread_stops}
use Rattle.journal_migration.proofs.migrating.migrate_in.Goals as goal

pub returns-in-Ok-clause-over_nothing : goal.returns-in-Ok-clause-over_nothing
returns-in-Ok-clause-over_nothing g c =
    let old = c.args.old_users.now in
    let new = c.args.new_users.now in
    let entries = moved_entries old new c.read_old-read.new.books.source.work.journal in
    over_nothing g.D.Disk.past g.D.Disk.faults old new c.args.from c.args.to c.read_old-read.result.1 entries c.write_moved-end.result.1 c.write_moved-end.result.0 c.write_moved-end.ensures.written

pub returns-in-Ok-clause-stops : goal.returns-in-Ok-clause-stops
returns-in-Ok-clause-stops g c =
    let old = c.args.old_users.now in
    let new = c.args.new_users.now in
    let books = c.read_old-read.new.books in
    let left = c.read_old-read.result.1 in
    let read = subst (λ (end : Result (Unit {0}) Migrated). IsReadFrom g.D.Disk.past g.D.Disk.faults old new c.args.from books left end) c.in-Ok.is c.read_old-read.ensures.read in
    stops g.D.Disk.past g.D.Disk.faults old new c.args.from c.args.to left books c.write_moved-end.result.1 c.write_moved-end.result.0 read c.write_moved-end.ensures.written

pub returns-in-Err-clause-stops : goal.returns-in-Err-clause-stops
returns-in-Err-clause-stops g c =
    let old = c.args.old_users.now in
    let new = c.args.new_users.now in
    let books = c.read_old-read.new.books in
    let left = c.read_old-read.result.1 in
    let read = subst (λ (end : Result (Unit {0}) Migrated). IsReadFrom g.D.Disk.past g.D.Disk.faults old new c.args.from books left end) c.in-Err.is c.read_old-read.ensures.read in
    unread_stops g.D.Disk.past g.D.Disk.faults old new c.args.from c.args.to left books (g.D.Disk.past c.args.to) c.in-Err.end read
