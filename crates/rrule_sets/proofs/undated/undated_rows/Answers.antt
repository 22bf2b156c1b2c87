use Rattle.rrule_sets.proofs.UndatedLemmas.{undated_done}
use Rattle.rrule_sets.proofs.undated.undated_rows.Goals as goal

pub returns : goal.returns
returns c = undated_done c.components.rows c.components.number c.components.rest.now c.args.object.now.components c.in_default.ensures.cases c.components.invariant.made
