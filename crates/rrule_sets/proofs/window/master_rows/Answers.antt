use Rattle.std.specs.Prelude.{length}
use Rattle.rrule_sets.proofs.WindowLemmas.{expandable_master}
use Rattle.rrule_sets.proofs.window.master_rows.Goals as goal

pub instances-requires-clause-component : goal.instances-requires-clause-component
instances-requires-clause-component g c = let found = c.in-Some.ensures in expandable_master (length c.args.zones.now) c.args.components.now _ found.0 c.requires.components found.1
