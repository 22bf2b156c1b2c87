use Rattle.std.proofs.Common.{Some, None, sym, ap}
use Rattle.std.specs.Prelude.{option_and_then}
use Rattle.cal_model.specs.Users.Credentials.{user_of_credentials}
use Rattle.dav_request.proofs.CredentialSteps.{spelled_by_text}
use Rattle.dav_request.proofs.credentials.user_of_value.Goals as goal

pub returns-in-Some : goal.returns-in-Some
returns-in-Some c = rw (spelled_by_text c.args.value.now (Some c.in-Some.text.now) c.in-Some.ensures) c.user_of_text.ensures

pub returns-in-None : goal.returns-in-None
returns-in-None c = sym (ap (option_and_then (user_of_credentials c.args.users.now)) (spelled_by_text c.args.value.now None c.in-None.ensures))
