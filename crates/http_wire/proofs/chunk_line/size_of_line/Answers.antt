use Rattle.std.proofs.Common.{◌∙◌}
use Rattle.http_wire.proofs.LineTexts.{size_by_text}
use Rattle.http_wire.proofs.chunk_line.size_of_line.Goals as goal

pub returns-in-Some : goal.returns-in-Some
returns-in-Some c = c.size_of_text.ensures ∙ size_by_text c.args.line.now _ c.requires c.in-Some.ensures

pub returns-in-None : goal.returns-in-None
returns-in-None c = size_by_text c.args.line.now _ c.requires c.in-None.ensures
