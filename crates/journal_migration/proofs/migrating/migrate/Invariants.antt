use Rattle.journal_migration.proofs.migrating.migrate.Given as goal

-- the ledger is that of the blank
abbrev pub ghosts-migrate_under : goal.ghosts-migrate_under
ghosts-migrate_under g a = record { name = a.blank.name; parts = a.blank.parts }
