use Rattle.std.proofs.Common.{ℕ, take, arith, subst}
use Rattle.ical_values.specs.DayForms.{Low}
use Rattle.ical_values.proofs.DayWidths.{low_none, low_more, ends_here, ends_last}
use Rattle.ical_values.proofs.rule_days.ordinal_width.Goals as goal

pub octets-init : goal.octets-init
octets-init c = low_none c.args.text.now

pub octets-preserved : goal.octets-preserved
octets-preserved c = low_more c.octets.place c.args.text.now c.octets-test.true c.octets.invariant (omega (arith, c.if-octet-gt57.false))

pub returns-then-octet-gt57-clause-ends : goal.returns-then-octet-gt57-clause-ends
returns-then-octet-gt57-clause-ends c = ends_here c.octets.place c.args.text.now c.octets-test.true (omega (arith, c.if-octet-gt57.true))

pub returns-clause-low : goal.returns-clause-low
returns-clause-low c = subst (λ (k : ℕ). Low (take k c.args.text.now)) (omega (arith, c.octets.auto.place-end, c.octets-test.false)) c.octets.invariant

pub returns-clause-ends : goal.returns-clause-ends
returns-clause-ends c = ends_last c.args.text.now
