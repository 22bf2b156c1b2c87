use Rattle.std.proofs.Common.{option_map, ap}
use Rattle.cal_moment.specs.declared.stamp.Stamp.TheVariants.{Date as AtDate}
use Rattle.cal_model.specs.Values.ValueTexts.{date_of}
use Rattle.cal_model.proofs.Values.ValueLaws.{date_of-SpellsDate}
use Rattle.cal_model.proofs.Values.ValuePlaces.{bad_date}
use Rattle.ical_values.proofs.ReadTexts.{bad_map}
use Rattle.ical_values.proofs.stamps.read_day.Goals as goal

pub returns-in-Ok-clause-ok : goal.returns-in-Ok-clause-ok
returns-in-Ok-clause-ok c = ap (option_map AtDate) (date_of-SpellsDate c.args.text.now c.in-Ok.day c.in-Ok.ensures.ok)

pub returns-in-Err-clause-bad : goal.returns-in-Err-clause-bad
returns-in-Err-clause-bad c = bad_map AtDate date_of c.args.text.now c.in-Err.fault.place (bad_date c.args.text.now c.in-Err.fault.place c.in-Err.ensures.err)
