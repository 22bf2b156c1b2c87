use Rattle.cal_moment.specs.Texts.{SpellsOffset}
use Rattle.cal_moment.proofs.StopsLemmas.{bad_at}
use Rattle.cal_moment.proofs.offsets.read_offset.Goals as goal

pub returns-in-Err-clause-only : goal.returns-in-Err-clause-only
returns-in-Err-clause-only c =
    λ seconds spells. absurd ((bad_at SpellsOffset c.args.text.now c.in-Err.left.now c.in-Err.ensures.err).outside (seconds, spells))

pub returns-in-Err-clause-err : goal.returns-in-Err-clause-err
returns-in-Err-clause-err c =
    rw c.bad.ensures (bad_at SpellsOffset c.args.text.now c.in-Err.left.now c.in-Err.ensures.err)
