use Rattle.caldav_server.specs.MigrateEnds.{AreTaken}
use Rattle.caldav_server.proofs.MigrateEndings.{taken_end, taken_stops}
use Rattle.caldav_server.proofs.migrate.migrate_files.Goals as goal

pub returns-in-Ok-users_of-clause-ended : goal.returns-in-Ok-users_of-clause-ended
returns-in-Ok-users_of-clause-ended g c =
    let told = g.F.Files.content c.args.files.now c.args.said.now.users.now in
    let new_told = g.F.Files.content c.args.new_files.now c.args.said.now.new_users.now in
    let taken : AreTaken told new_told c.in-Ok.old_users c.in-Ok-users_of.new_users = record { old_are = c.in-Ok.ensures.taken; new_are = c.in-Ok-users_of.ensures.taken } in
    taken_end g.D.Disk.past g.D.Disk.faults told new_told c.in-Ok.old_users c.in-Ok-users_of.new_users taken c.args.from c.args.to c.migrate_users.result.1 c.migrate_users.result.2 c.migrate_users.result.0 c.migrate_users.ensures.ended

pub returns-in-Ok-users_of-clause-stops : goal.returns-in-Ok-users_of-clause-stops
returns-in-Ok-users_of-clause-stops g c =
    let told = g.F.Files.content c.args.files.now c.args.said.now.users.now in
    let new_told = g.F.Files.content c.args.new_files.now c.args.said.now.new_users.now in
    let taken : AreTaken told new_told c.in-Ok.old_users c.in-Ok-users_of.new_users = record { old_are = c.in-Ok.ensures.taken; new_are = c.in-Ok-users_of.ensures.taken } in
    taken_stops told new_told c.in-Ok.old_users c.in-Ok-users_of.new_users (g.D.Disk.past c.args.from) (g.D.Disk.past c.args.to) (g.D.Disk.past c.migrate_users.result.2) c.migrate_users.result.0 taken c.migrate_users.ensures.stops
