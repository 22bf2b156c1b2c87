use Rattle.std.proofs.Common.{length, arith}
use Rattle.override_merge.proofs.MergeLemmas.{zones_count}
use Rattle.override_merge.proofs.StampLemmas.{ids_convertible}
use Rattle.rrule_sets.proofs.SeveralLemmas.{looks_cost}
use Rattle.rrule_sets.proofs.windows.rows_of_one_walk.Goals as goal

pub needed_of_each-requires-clause-ids : goal.needed_of_each-requires-clause-ids
needed_of_each-requires-clause-ids g c =
    let object = c.args.object.now in
    let count = zones_count c.args.zones.now object.zones c.requires.zones in
    rw count (ids_convertible (length object.zones) object c.args.ids c.requires.object.rows.components c.requires.ids).zone

pub returns-in_err-each-clause-steps : goal.returns-in_err-each-clause-steps
returns-in_err-each-clause-steps g c =
    let looked = rw c.as_slice-components.ensures at c.needed_of_each.ensures.steps in
    let less = looks_cost c.args.object.now c.args.windows.now in
    omega (arith, looked, less)

pub returns-clause-steps : goal.returns-clause-steps
returns-clause-steps g c =
    let looked = rw c.as_slice-components.ensures at c.needed_of_each.ensures.steps in
    let walked = rw (c.as_slice.ensures, c.in_ok-each.ensures.windows) at c.rows_of_needed.ensures.steps in
    walked c.args.steps.now looked
