use Rattle.http_wire.proofs.HeadBlocks.{without_its_return, without_return_other}
use Rattle.http_wire.proofs.head.before_return.Goals as goal

pub returns-in-Some : goal.returns-in-Some
returns-in-Some c = without_its_return c.args.line.now c.in-Some.text.now c.in-Some.ensures

pub returns-in-None : goal.returns-in-None
returns-in-None c = without_return_other c.args.line.now c.in-None.ensures
