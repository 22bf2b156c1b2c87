use Rattle.std.proofs.Common.{length}
use Rattle.std.proofs.lemmas.Bool.{eq-eqb}
use Rattle.ical_values.proofs.FormPlaces.{bad_day_or_time, no_day}
use Rattle.ical_values.proofs.stamps.day_or.Goals as goal

pub returns-in-Err-clause-bad : goal.returns-in-Err-clause-bad
returns-in-Err-clause-bad c =
    let day = c.in-Err.ensures.bad in
    bad_day_or_time c.args.zone c.args.text.now c.args.fault.place (no_day c.args.zone c.args.text.now (eq-eqb (length c.args.text.now) 8 c.requires.eight) day.outside) c.requires.fault
