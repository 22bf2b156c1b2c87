use Rattle.std.proofs.Common.{◌∙◌, ap}
use Rattle.command_words.specs.MigrateWords.{users_path, new_users_path}
use Rattle.caldav_server.proofs.MigrateEndings.{stops_at}
use Rattle.caldav_server.proofs.migrate.run_migrate.Goals as goal

pub returns-in-Ok-clause-stops : goal.returns-in-Ok-clause-stops
returns-in-Ok-clause-stops g c =
    let users = c.in-Ok.ensures.said.users_are ∙ ap users_path c.as_slice.ensures in
    let new_users = c.in-Ok.ensures.said.new_users_are ∙ ap new_users_path c.as_slice.ensures in
    stops_at (g.F.Files.content c.args.files.now) (g.F.Files.content c.args.new_files.now) _ _ _ _ (g.D.Disk.past c.args.from) (g.D.Disk.past c.args.to) (g.D.Disk.past c.migrate_files.result.2) c.migrate_files.result.0
    users new_users c.migrate_files.ensures.stops
