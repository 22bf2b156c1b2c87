use Rattle.std.proofs.Common.{Ok, ap}
use Rattle.cal_moment.specs.LengthTexts.{SpellsLength}
use Rattle.cal_moment.proofs.LengthLemmas.{one_length}
use Rattle.cal_moment.proofs.StopsLemmas.{bad_at}
use Rattle.cal_moment.proofs.lengths.read_length.Goals as goal

pub returns-in-Ok-clause-only : goal.returns-in-Ok-clause-only
returns-in-Ok-clause-only c =
    λ length spells. ap Ok (one_length c.args.text.now c.in-Ok.length length c.in-Ok.ensures.ok spells)

pub returns-in-Err-clause-only : goal.returns-in-Err-clause-only
returns-in-Err-clause-only c =
    λ length spells. absurd ((bad_at SpellsLength c.args.text.now c.in-Err.left.now c.in-Err.ensures.err).outside (length, spells))

pub returns-in-Err-clause-err : goal.returns-in-Err-clause-err
returns-in-Err-clause-err c =
    rw c.bad.ensures (bad_at SpellsLength c.args.text.now c.in-Err.left.now c.in-Err.ensures.err)
