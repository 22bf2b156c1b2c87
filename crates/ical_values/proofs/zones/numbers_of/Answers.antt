use Rattle.ical_values.proofs.Numbering.{next_places}
use Rattle.ical_values.proofs.zones.numbers_of.Goals as goal

pub names-preserved : goal.names-preserved
names-preserved c =
    next_places c.args.names.now c.names.place c.index-names-place.result c.as_slice.result.now c.names.numbers c.add_name.new.numbers c.names-test.true c.index-names-place.is c.as_slice.ensures c.names.invariant c.in_ok-add_name.ensures
