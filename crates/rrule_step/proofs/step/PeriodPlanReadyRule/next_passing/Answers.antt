use Rattle.std.proofs.Common.{arith}
use Rattle.std.proofs.lemmas.Int.{ints}
use Rattle.rrule_step.proofs.step.PeriodPlanReadyRule.next_passing.Goals as goal

pub returns-then-self-clause-none : goal.returns-then-self-clause-none
returns-then-self-clause-none c =
    let first = c.requires.from.from_first in
    record { each = λ m low high. c.requires.ready.never c.if-self.true m (omega (arith, ints, low, first)) }

pub returns-clause-some : goal.returns-clause-some
returns-clause-some c = rw (c.requires.ready.begins, c.requires.ready.is_date) at c.next_from.ensures.some

pub returns-clause-none : goal.returns-clause-none
returns-clause-none c = rw (c.requires.ready.begins, c.requires.ready.is_date) at c.next_from.ensures.none
