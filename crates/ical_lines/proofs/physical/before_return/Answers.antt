use Rattle.std.proofs.Common.{arith}
use borrow.Author.Tests.{false-eqb}
use Rattle.ical_lines.proofs.PhysicalLines.{without_return-return, without_return-other}
use Rattle.ical_lines.proofs.physical.before_return.Goals as goal

pub returns-then-text-end-eq13 : goal.returns-then-text-end-eq13
returns-then-text-end-eq13 c = without_return-return c.args.text.now _ (omega (arith, false-eqb _ _ c.if-is_empty.ensures)) c.if-text-end-eq13.true

pub returns-else-text-end-eq13 : goal.returns-else-text-end-eq13
returns-else-text-end-eq13 c = without_return-other c.args.text.now _ (omega (arith, false-eqb _ _ c.if-is_empty.ensures)) c.if-text-end-eq13.false
