use Rattle.std.proofs.Common.{arith, sym}
use Rattle.std.proofs.lemmas.List.{take_rest}
use Rattle.ical_lines.proofs.PhysicalLines.{physical_ended, physical_last}
use Rattle.ical_lines.proofs.physical.first_physical.Goals as goal

pub returns-in-Some-clause-line : goal.returns-in-Some-clause-line
returns-in-Some-clause-line c = λ place. rw (take_rest, c.before_return.ensures) (physical_ended c.args.octets.now c.in-Some.end place (sym c.in-Some.ensures))

pub returns-in-None-clause-line : goal.returns-in-None-clause-line
returns-in-None-clause-line c = λ place. rw take_rest (physical_last c.args.octets.now place _ (omega arith) (sym c.in-None.ensures))
