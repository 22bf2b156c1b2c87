use Rattle.std.proofs.Common.{arith}
use Rattle.cal_model.specs.Pieces.PieceLists.{is_other_piece}
use Rattle.tests_state.proofs.PlainListLaws.{others_counted, rows_in_filter_le}
use Rattle.tests_state.proofs.plain_list.rows_of_others.Goals as goal

pub overflow_add-rows : goal.overflow_add-rows
overflow_add-rows c =
    omega (
      arith,
      others_counted c.args.origin c.args.pieces.now c.loop-piece.piece-index c.piece-item.result c.loop-piece-test.true c.piece-item.is c.if-piece-origin.true,
      rows_in_filter_le (is_other_piece c.args.origin) c.args.pieces.now,
    )
