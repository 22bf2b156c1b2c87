use Rattle.std.proofs.Common.{sym}
use Rattle.collections.proofs.HomeLemmas.{at_any_err, same_home}
use Rattle.collections.proofs.home.put.Goals as goal

pub returns-in_err-put-clause-err : goal.returns-in_err-put-clause-err
returns-in_err-put-clause-err c =
    at_any_err c.from_residual.result (same_home c.args.home.now c.as_slice.result.now c.in-Some.calendar.now c.put.new.self (sym c.in-Some.ensures.value) c.in_err-put.ensures.err)
