use Rattle.ical_values.proofs.ReadLines.{bad_stamps, no_stamps}
use Rattle.ical_values.proofs.stamps.read_stamps.Goals as goal

pub returns-in-Err-clause-outside : goal.returns-in-Err-clause-outside
returns-in-Err-clause-outside c = λ place is. no_stamps c.args.zones.now c.args.line.now place (c.in-Err.ensures.bad place is)

pub returns-in-Err-clause-bad : goal.returns-in-Err-clause-bad
returns-in-Err-clause-bad c = λ place is. bad_stamps c.args.zones.now c.args.line.now place (c.in-Err.ensures.bad place is)
