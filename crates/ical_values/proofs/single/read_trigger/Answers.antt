use Rattle.std.proofs.Common.{sym, ◌∙◌}
use Rattle.ical_values.proofs.Triggers.{trigger_at, trigger_from, bad_trigger_at, bad_trigger_from, no_trigger}
use Rattle.ical_values.proofs.single.read_trigger.Goals as goal

pub returns-in-Ok-clause-ok : goal.returns-in-Ok-clause-ok
returns-in-Ok-clause-ok c = trigger_at c.args.line.now c.in-Ok.moment (sym c.param_is.ensures ∙ c.if-param_is.true) (rw c.as_slice-text.ensures at c.in-Ok.ensures.ok)

pub returns-in-Err-clause-bad : goal.returns-in-Err-clause-bad
returns-in-Err-clause-bad c = bad_trigger_at c.args.line.now c.in-Err.fault.place (sym c.param_is.ensures ∙ c.if-param_is.true) (rw c.as_slice-text.ensures at c.in-Err.ensures.bad)

pub returns-in-Ok-read_duration-clause-ok : goal.returns-in-Ok-read_duration-clause-ok
returns-in-Ok-read_duration-clause-ok c = rw c.related.ensures (trigger_from c.args.line.now c.in-Ok-read_duration.length (sym c.param_is.ensures ∙ c.if-param_is.false) (rw c.as_slice-text.ensures at c.in-Ok-read_duration.ensures.ok))

pub returns-in-Err-read_duration-clause-bad : goal.returns-in-Err-read_duration-clause-bad
returns-in-Err-read_duration-clause-bad c = bad_trigger_from c.args.line.now c.in-Err-read_duration.fault.place (sym c.param_is.ensures ∙ c.if-param_is.false) (rw c.as_slice-text.ensures at c.in-Err-read_duration.ensures.bad)

pub returns-in-Err-clause-outside : goal.returns-in-Err-clause-outside
returns-in-Err-clause-outside c = no_trigger c.args.line.now c.in-Err.fault.place (bad_trigger_at c.args.line.now c.in-Err.fault.place (sym c.param_is.ensures ∙ c.if-param_is.true) (rw c.as_slice-text.ensures at c.in-Err.ensures.bad))

pub returns-in-Err-read_duration-clause-outside : goal.returns-in-Err-read_duration-clause-outside
returns-in-Err-read_duration-clause-outside c = no_trigger c.args.line.now c.in-Err-read_duration.fault.place (bad_trigger_from c.args.line.now c.in-Err-read_duration.fault.place (sym c.param_is.ensures ∙ c.if-param_is.false) (rw c.as_slice-text.ensures at c.in-Err-read_duration.ensures.bad))
