use Rattle.dav_body.proofs.Answered.{sized}
use Rattle.dav_body.proofs.read.read_body.Goals as goal

pub returns-clause-size : goal.returns-clause-size
returns-clause-size c = sized c.args.octets.now c.read.result c.read.ensures.body
