use Rattle.std.proofs.Common.{List, subst}
use Rattle.cal_model.specs.History.Journal.{Entry}
use Rattle.journal_migration.specs.Writing.{IsWrittenAs}
use Rattle.journal_migration.proofs.MigrateLaws.{target_recorded, of_both}
use Rattle.journal_migration.proofs.migrating.write_moved.Goals as goal

pub write_new-requires : goal.write_new-requires
write_new-requires g c = target_recorded c.args.old_users.now c.args.new_users.now c.requires.all c.args.books.now c.requires.whole

pub returns-clause-written : goal.returns-clause-written
returns-clause-written g c =
    subst (λ (entries : List Entry). IsWrittenAs g.D.Disk.past g.D.Disk.faults c.args.new_users.now entries c.args.to c.write_new.result.1 c.write_new.result.0) c.requires.whole.moved c.write_new.ensures.written

pub returns-clause-of_both : goal.returns-clause-of_both
returns-clause-of_both g c =
    of_both c.args.old_users.now c.args.new_users.now c.requires.all c.args.books.now c.requires.whole c.history_laws.ensures.effect c.len-old.ensures.told c.len-new.ensures.told
    c.entries-source.ensures.kept.legal c.entries-target.ensures.kept.legal
