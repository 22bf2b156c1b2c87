use Rattle.rrule_sets.proofs.CostLemmas.{component_counted, dates_only, rules_only}
use Rattle.rrule_sets.proofs.instances.put_recurring.Goals as goal

pub returns-in_err-put_later_starts-clause-steps : goal.returns-in_err-put_later_starts-clause-steps
returns-in_err-put_later_starts-clause-steps g c = λ day ends.
    rules_only c.args.component.now c.args.stamp day c.args.steps.now c.put_later_starts.new.steps c.requires.start (rw c.as_slice-rules.ensures at (c.put_later_starts.ensures.steps day ends))

pub returns-in_err-put_dates-clause-steps : goal.returns-in_err-put_dates-clause-steps
returns-in_err-put_dates-clause-steps g c = λ day ends.
    dates_only c.args.component.now c.args.stamp day c.args.steps.now c.put_later_starts.new.steps c.put_dates.new.steps c.requires.start
    (rw c.as_slice-rules.ensures at (c.put_later_starts.ensures.steps day ends)) (rw c.as_slice-dates.ensures at c.put_dates.ensures.steps)

pub returns-in_err-put_periods-clause-steps : goal.returns-in_err-put_periods-clause-steps
returns-in_err-put_periods-clause-steps g c = λ day ends.
    component_counted c.args.component.now c.args.stamp day c.args.steps.now c.put_later_starts.new.steps c.put_dates.new.steps c.put_periods.new.steps c.requires.start
    (rw c.as_slice-rules.ensures at (c.put_later_starts.ensures.steps day ends)) (rw c.as_slice-dates.ensures at c.put_dates.ensures.steps) (rw c.as_slice-spans.ensures at c.put_periods.ensures.steps)

pub returns-clause-steps : goal.returns-clause-steps
returns-clause-steps g c = λ day ends.
    component_counted c.args.component.now c.args.stamp day c.args.steps.now c.put_later_starts.new.steps c.put_dates.new.steps c.put_periods.new.steps c.requires.start
    (rw c.as_slice-rules.ensures at (c.put_later_starts.ensures.steps day ends)) (rw c.as_slice-dates.ensures at c.put_dates.ensures.steps) (rw c.as_slice-spans.ensures at c.put_periods.ensures.steps)
