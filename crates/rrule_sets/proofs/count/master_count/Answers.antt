use Rattle.rrule_sets.proofs.CountLemmas.{only_master}
use Rattle.rrule_sets.proofs.count.master_count.Goals as goal

pub count_beside-requires-clause-master : goal.count_beside-requires-clause-master
count_beside-requires-clause-master g c =
    let object = c.args.object.now in
    let found = c.in-Some.ensures in
    only_master object _ _ found.0 c.requires.object.read.one_master (rw c.as_slice.ensures at found.1)
