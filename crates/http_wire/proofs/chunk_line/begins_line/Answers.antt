use Rattle.std.proofs.Common.{◌∙◌, length, arith}
use borrow.Author.Tests.{false-eqb, true-eqb}
use Rattle.http_wire.proofs.LineTexts.{begins_none, begins_by_text, begins_by_return}
use Rattle.http_wire.proofs.chunk_line.begins_line.Goals as goal

pub returns-then-is_empty : goal.returns-then-is_empty
returns-then-is_empty c = begins_none c.args.near.now (true-eqb (length c.args.near.now) 0 c.if-is_empty.ensures)

pub returns-in-Some : goal.returns-in-Some
returns-in-Some c = c.states_size.ensures ∙ begins_by_return c.args.near.now c.in-Some.text.now c.in-Some.ensures c.requires

pub returns-in-None : goal.returns-in-None
returns-in-None c = c.states_size-in-None.ensures ∙ begins_by_text c.args.near.now (omega (arith, false-eqb (length c.args.near.now) 0 c.if-is_empty.ensures)) c.in-None.ensures c.requires
