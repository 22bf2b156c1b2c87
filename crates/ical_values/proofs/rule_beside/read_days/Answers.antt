use Rattle.ical_values.proofs.DayReading.{days_lack_commas}
use Rattle.ical_values.proofs.rule_beside.read_days.Goals as goal

pub read_list-requires : goal.read_list-requires
read_list-requires c = days_lack_commas c.args.form.ordinals
