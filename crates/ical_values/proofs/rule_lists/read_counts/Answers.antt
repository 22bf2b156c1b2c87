use Rattle.ical_values.proofs.NumberLists.{counts_lack_commas}
use Rattle.ical_values.proofs.rule_lists.read_counts.Goals as goal

pub read_list-requires : goal.read_list-requires
read_list-requires c = counts_lack_commas c.args.form
