use Rattle.std.proofs.Common.{sym}
use Rattle.cal_base.proofs.Lines.QuotedCuts.{unquoted_pieces_at, unquoted_pieces_whole}
use Rattle.cal_base.proofs.unquoted.first_unquoted_piece.Goals as goal

pub returns-in-Some-clause-pieces : goal.returns-in-Some-clause-pieces
returns-in-Some-clause-pieces c = unquoted_pieces_at c.args.separator _ c.args.text.now _ _ (sym c.in-Some.ensures.parts)

pub returns-in-None-clause-pieces : goal.returns-in-None-clause-pieces
returns-in-None-clause-pieces c = unquoted_pieces_whole c.args.separator _ c.args.text.now (sym c.in-None.ensures.parts)
