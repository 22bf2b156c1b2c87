use Rattle.std.proofs.Common.{length}
use Rattle.std.proofs.lemmas.Bool.{ne_eqb}
use Rattle.ical_values.proofs.FormPlaces.{time_is_stamp, bad_day_or_time, other_length}
use Rattle.ical_values.proofs.stamps.read_day_or_time.Goals as goal

pub returns-in-Ok-clause-ok : goal.returns-in-Ok-clause-ok
returns-in-Ok-clause-ok c = time_is_stamp c.args.zone c.args.text.now c.in-Ok.stamp c.in-Ok.ensures.ok

pub returns-in-Err-2-clause-bad : goal.returns-in-Err-2-clause-bad
returns-in-Err-2-clause-bad c =
    let bad = c.in-Err.ensures.bad in
    bad_day_or_time c.args.zone c.args.text.now c.in-Err.fault.place (other_length c.args.zone c.args.text.now (ne_eqb (length c.args.text.now) 8 c.if-text-eq8.false) bad.outside) bad
