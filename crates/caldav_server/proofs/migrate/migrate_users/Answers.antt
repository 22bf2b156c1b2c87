use Rattle.caldav_server.proofs.MigrateEndings.{told_stops}
use Rattle.caldav_server.proofs.migrate.migrate_users.Goals as goal

pub returns-in-Ok-clause-stops : goal.returns-in-Ok-clause-stops
returns-in-Ok-clause-stops g c =
    told_stops c.deref.result.now c.args.old_users c.args.new_users (g.D.Disk.past c.args.from) (g.D.Disk.past c.args.to) (g.D.Disk.past c.migrate-migrated.result.2) c.migrate-migrated.result.0 c.told.result c.told.ensures
    c.migrate-migrated.ensures.stops
