use Rattle.std.proofs.Common.{◌∙◌, sym, arith}
use Rattle.piece_index.specs.Entries.{pieces_of}
use Rattle.cal_model.proofs.Pieces.PieceListLaws.{within_done}
use Rattle.piece_index.proofs.chains.Chains.shrink.Goals as goal

pub returns-clause-pieces : goal.returns-clause-pieces
returns-clause-pieces c =
    sym (within_done c.args.budget (pieces_of c.loop-left.self) (omega arith)) ∙ c.loop-left.invariant.same
