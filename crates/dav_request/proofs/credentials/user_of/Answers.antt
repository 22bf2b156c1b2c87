use Rattle.std.proofs.Common.{sym}
use Rattle.dav_request.proofs.CredentialSteps.{authenticated_by_value, nobody_authenticated}
use Rattle.dav_request.proofs.credentials.user_of.Goals as goal

pub returns-in-Some : goal.returns-in-Some
returns-in-Some c = rw (authenticated_by_value c.args.users.now c.args.authorization.now c.in-Some.value c.as_slice.result.now c.in-Some.is c.as_slice.ensures) c.user_of_value.ensures

pub returns-in-None : goal.returns-in-None
returns-in-None c = sym (nobody_authenticated c.args.users.now c.args.authorization.now c.in-None.is)
