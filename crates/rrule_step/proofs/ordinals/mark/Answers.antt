use Rattle.std.proofs.Common.{arith}
use Rattle.rrule_step.specs.Ordinals.{marks}
use Rattle.rrule_step.proofs.OrdinalLemmas.{marks-set, marks-above}
use Rattle.rrule_step.proofs.ordinals.mark.Goals as goal

pub returns-then-number-lt64 : goal.returns-then-number-lt64
returns-then-number-lt64 c = λ k i below. marks-set c.args.words.now c.args.weekday c.args.number k i (omega arith) c.if-number-lt64.true below

pub returns-else-number-lt64 : goal.returns-else-number-lt64
returns-else-number-lt64 c = λ k i below. marks-above c.args.weekday c.args.number k i (marks c.args.words.now k i) c.if-number-lt64.false below
