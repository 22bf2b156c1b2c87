use Rattle.http_wire.proofs.LineTexts.{break_of, no_break}
use Rattle.http_wire.proofs.chunk_line.before_break.Goals as goal

pub returns-in-Some : goal.returns-in-Some
returns-in-Some c = break_of c.args.line.now c.in-Some.text.now c.before_last-in-Some.result c.in-Some.ensures c.before_last-in-Some.ensures

pub returns-in-None : goal.returns-in-None
returns-in-None c = no_break c.args.line.now c.in-None.ensures
