use Rattle.std.proofs.Common.{w32, to_z, of_z}
use Rattle.tests_objects.proofs.FoundRows.{found_shown}
use Rattle.tests_objects.proofs.showing.rows.Goals as goal

pub returns : goal.returns
returns c = found_shown c.rows_counted.result c.args.object.now (to_z w32 (of_z w32 c.args.window)) c.requires.read c.rows_counted.ensures
