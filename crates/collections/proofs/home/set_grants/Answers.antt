use Rattle.std.proofs.Common.{sym}
use Rattle.collections.proofs.HomeLemmas.{at_any_err, same_home}
use Rattle.collections.proofs.home.set_grants.Goals as goal

pub returns-in_err-set_grants-clause-err : goal.returns-in_err-set_grants-clause-err
returns-in_err-set_grants-clause-err c =
    at_any_err c.from_residual.result (same_home c.args.home.now c.args.name.now c.in-Some.calendar.now c.set_grants.new.self (sym c.in-Some.ensures.value) c.in_err-set_grants.ensures.err)
