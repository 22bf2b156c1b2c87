use Rattle.std.proofs.Common.{arith, FitsSigned, w32, to_z-of_z}
use Rattle.cal_model.proofs.Values.ValueLaws.{offset_of-SpellsOffset}
use Rattle.cal_model.proofs.Values.ValuePlaces.{bad_offset}
use Rattle.std.proofs.lemmas.Int.{ints}
use Rattle.cal_model.specs.Values.ValueTexts.{offset_of}
use Rattle.ical_values.proofs.ReadLines.{no_value}
use Rattle.ical_values.proofs.single.read_utc_offset.Goals as goal

pub returns-in-Ok-clause-ok : goal.returns-in-Ok-clause-ok
returns-in-Ok-clause-ok c =
    let range = c.in-Ok.ensures.range in
    let fits : FitsSigned w32 c.in-Ok.seconds = omega (arith, ints, range) in
    simp to_z-of_z (offset_of-SpellsOffset c.args.text.now c.in-Ok.seconds c.in-Ok.ensures.ok)

pub returns-in-Err-clause-bad : goal.returns-in-Err-clause-bad
returns-in-Err-clause-bad c = bad_offset c.args.text.now c.in-Err.fault.place c.in-Err.ensures.err

pub returns-in-Err-clause-outside : goal.returns-in-Err-clause-outside
returns-in-Err-clause-outside c = no_value offset_of c.args.text.now (bad_offset c.args.text.now c.in-Err.fault.place c.in-Err.ensures.err).outside
