use Rattle.std.proofs.Common.{◌∙◌, sym, arith}
use Rattle.cal_model.proofs.Pieces.PieceListLaws.{within_done}
use Rattle.tests_state.proofs.plain_list.shrink.Goals as goal

pub returns-clause-pieces : goal.returns-clause-pieces
returns-clause-pieces c =
    sym (within_done c.args.room c.loop-left.pieces.items (omega arith)) ∙ c.loop-left.invariant.same
