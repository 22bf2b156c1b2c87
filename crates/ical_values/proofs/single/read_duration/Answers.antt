use Rattle.cal_model.proofs.Values.LengthLaws.{length_of-SpellsLength}
use Rattle.cal_model.proofs.Values.ValuePlaces.{bad_length}
use Rattle.cal_model.specs.Values.ValueTexts.{length_of}
use Rattle.ical_values.proofs.ReadLines.{no_value}
use Rattle.ical_values.proofs.single.read_duration.Goals as goal

pub returns-in-Ok-clause-ok : goal.returns-in-Ok-clause-ok
returns-in-Ok-clause-ok c = length_of-SpellsLength c.args.text.now c.in-Ok.length c.in-Ok.ensures.ok

pub returns-in-Err-clause-bad : goal.returns-in-Err-clause-bad
returns-in-Err-clause-bad c = bad_length c.args.text.now c.in-Err.fault.place c.in-Err.ensures.err

pub returns-in-Err-clause-outside : goal.returns-in-Err-clause-outside
returns-in-Err-clause-outside c = no_value length_of c.args.text.now (bad_length c.args.text.now c.in-Err.fault.place c.in-Err.ensures.err).outside
