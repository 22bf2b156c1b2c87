use Rattle.std.proofs.Common.{ap, sym, ◌∙◌, cond, Some, None}
use Rattle.dav_request.proofs.CredentialSteps.{admitted_by_digest}
use Rattle.dav_request.proofs.credentials.admitted_as.Goals as goal

pub returns-then-admits : goal.returns-then-admits
returns-then-admits c = sym (admitted_by_digest c.args.digest.now c.args.who _ _ c.admits.ensures ∙ ap (λ b. cond b (Some c.args.who) None) c.if-admits.true)

pub returns-else-admits : goal.returns-else-admits
returns-else-admits c = sym (admitted_by_digest c.args.digest.now c.args.who _ _ c.admits.ensures ∙ ap (λ b. cond b (Some c.args.who) None) c.if-admits.false)
