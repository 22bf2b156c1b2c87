use Rattle.std.proofs.Common.{sym, ◌∙◌}
use Rattle.dav_request.proofs.AskedLaws.{asked_by_user, asked_by_nobody}
use Rattle.dav_request.proofs.requests.read.Goals as goal

pub returns-in-Some : goal.returns-in-Some
returns-in-Some c = rw (asked_by_user c.args.users.now c.args.wire.now c.in-Some.who (sym c.in_ok-who.ensures ∙ c.in-Some.is)) c.read_of_user.ensures

pub returns-in-None : goal.returns-in-None
returns-in-None c = rw c.refused.ensures (asked_by_nobody c.args.users.now c.args.wire.now (sym c.in_ok-who.ensures ∙ c.in-None.is))
