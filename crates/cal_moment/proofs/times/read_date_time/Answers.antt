use Rattle.cal_moment.specs.Texts.{SpellsDateTime}
use Rattle.cal_moment.proofs.StopsLemmas.{bad_at}
use Rattle.cal_moment.proofs.times.read_date_time.Goals as goal

pub returns-in-Err-clause-only : goal.returns-in-Err-clause-only
returns-in-Err-clause-only c =
    λ value spells. absurd ((bad_at SpellsDateTime c.args.text.now c.in-Err.left.now c.in-Err.ensures.err).outside (value, spells))

pub returns-in-Err-clause-err : goal.returns-in-Err-clause-err
returns-in-Err-clause-err c =
    rw c.bad.ensures (bad_at SpellsDateTime c.args.text.now c.in-Err.left.now c.in-Err.ensures.err)
