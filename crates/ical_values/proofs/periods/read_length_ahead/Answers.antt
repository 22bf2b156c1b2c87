use Rattle.std.proofs.Common.{sym, ◌∙◌}
use Rattle.ical_values.proofs.PeriodPlaces.{bad_minus, bad_plus}
use Rattle.ical_values.proofs.periods.read_length_ahead.Goals as goal

pub returns-then-is_negative-clause-bad : goal.returns-then-is_negative-clause-bad
returns-then-is_negative-clause-bad c = bad_minus c.args.text.now (sym c.is_negative.ensures ∙ c.if-is_negative.true)

pub returns-in-Err-clause-bad : goal.returns-in-Err-clause-bad
returns-in-Err-clause-bad c = bad_plus c.args.text.now c.in-Err.fault.place (sym c.is_negative.ensures ∙ c.if-is_negative.false) c.in-Err.ensures.bad
