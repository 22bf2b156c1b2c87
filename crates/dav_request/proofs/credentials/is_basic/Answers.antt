use Rattle.std.proofs.Common.{codes, sym}
use Rattle.dav_request.proofs.CredentialSteps.{same_name}
use Rattle.dav_request.proofs.credentials.is_basic.Goals as goal

pub returns : goal.returns
returns c = sym (same_name c.args.scheme.now (codes "basic") c.eq_ignore_ascii_case.result c.eq_ignore_ascii_case.ensures.test)
