use Rattle.dav_request.proofs.AskedLaws.{asked-bookable, asked-fits}
use Rattle.dav_request.proofs.requests.read_request.Goals as goal

pub returns-in-Ok-clause-bookable : goal.returns-in-Ok-clause-bookable
returns-in-Ok-clause-bookable c = asked-bookable c.args.users.now c.args.wire.now c.in-Ok.asked c.requires c.in-Ok.ensures

pub returns-in-Ok-clause-fits : goal.returns-in-Ok-clause-fits
returns-in-Ok-clause-fits c = asked-fits c.args.users.now c.args.wire.now c.in-Ok.asked c.in-Ok.ensures
