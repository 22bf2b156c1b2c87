use Rattle.std.proofs.Common.{sym}
use Rattle.collections.proofs.HomeLemmas.{at_any_err, same_home}
use Rattle.collections.proofs.home.set.Goals as goal

pub returns-in_err-set-clause-err : goal.returns-in_err-set-clause-err
returns-in_err-set-clause-err c =
    at_any_err c.from_residual.result (same_home c.args.home.now c.args.name.now c.in-Some.calendar.now c.set.new.self (sym c.in-Some.ensures.value) c.in_err-set.ensures.err)
