use Rattle.std.proofs.Common.{Ok, ap}
use Rattle.cal_moment.specs.Texts.{SpellsDate}
use Rattle.cal_moment.proofs.DateLemmas.{one_date}
use Rattle.cal_moment.proofs.StopsLemmas.{bad_at}
use Rattle.cal_moment.proofs.dates.read_date.Goals as goal

pub returns-in-Err-clause-only : goal.returns-in-Err-clause-only
returns-in-Err-clause-only c =
    λ day spells. absurd ((bad_at SpellsDate c.args.text.now c.in-Err.left.now c.in-Err.ensures.err).outside (day, spells))

pub returns-in-Err-clause-err : goal.returns-in-Err-clause-err
returns-in-Err-clause-err c =
    rw c.bad.ensures (bad_at SpellsDate c.args.text.now c.in-Err.left.now c.in-Err.ensures.err)

pub returns-in-Ok-clause-only : goal.returns-in-Ok-clause-only
returns-in-Ok-clause-only c =
    λ day spells. ap Ok (one_date c.args.text.now c.in-Ok.day day c.in-Ok.ensures.ok spells)
