use Rattle.std.proofs.Common.{◌≡◌, ◌≤◌, length, vec_len}
use Rattle.std.specs.Prelude.{vec_capacity}
use Rattle.cal_model.specs.Pieces.PieceLists.{rows_in, newest_within}
use Rattle.tests_state.proofs.plain_list.shrink.Given as goal

abbrev pub invariant-loop-left : goal.invariant-loop-left
invariant-loop-left l = record {
  rows : l.left ≡ rows_in l.pieces.items;
  same : newest_within l.room l.pieces.items ≡ newest_within l.room l.fn.pieces.items;
  len : vec_len l.pieces ≤ vec_len l.fn.pieces;
  capacity : vec_capacity l.pieces ≡ vec_capacity l.fn.pieces;
}

abbrev pub decreases-loop-left : goal.decreases-loop-left
decreases-loop-left l = length l.pieces.items
