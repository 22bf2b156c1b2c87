use Rattle.ical_values.proofs.NumberLists.{places_lack_commas}
use Rattle.ical_values.proofs.rule_lists.read_places.Goals as goal

pub read_list-requires : goal.read_list-requires
read_list-requires c = places_lack_commas c.args.form
