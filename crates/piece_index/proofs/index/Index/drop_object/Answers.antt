use Rattle.std.proofs.Common.{◌∙◌, ap, sym, subst, arith}
use Rattle.cal_model.specs.Pieces.KeptPieces.{KeptPieces}
use Rattle.cal_model.proofs.Pieces.FoundPieces.{All-others, none_after_drop, same_after_drop}
use Rattle.cal_model.specs.Pieces.PieceLists.{ArePairsApart, is_other_piece, rows_at}
use Rattle.cal_model.proofs.Pieces.PieceListLaws.{apart_pairs_filter}
use Rattle.piece_index.specs.Bounds.{IsBetween, AreBetween}
use Rattle.piece_index.proofs.index.Index.drop_object.Goals as goal

pub invariant_of-self : goal.invariant_of-self
invariant_of-self g c = (
  record {
    counted = c.drop_of-self-inside.ensures.rows;
    fits = omega arith;
    apart = subst ArePairsApart (sym c.drop_of-self-inside.ensures.pieces) (apart_pairs_filter (is_other_piece c.args.origin) _ c.self.invariant.0.apart);
  },
  subst (AreBetween c.self.inside.least_window c.self.inside.greatest_window) (sym c.drop_of-self-inside.ensures.pieces)
      (All-others (IsBetween c.self.inside.least_window c.self.inside.greatest_window) (is_other_piece c.args.origin) _ c.self.invariant.1),
)

pub returns-clause-gone : goal.returns-clause-gone
returns-clause-gone g c window =
    ap (rows_at c.args.origin window) c.drop_of-self-inside.ensures.pieces ∙ none_after_drop c.args.origin window _

pub returns-clause-others : goal.returns-clause-others
returns-clause-others g c other window far =
    ap (rows_at other window) c.drop_of-self-inside.ensures.pieces
    ∙ same_after_drop c.args.origin other window _ far
    ∙ ap (λ (kept : KeptPieces). rows_at other window kept.pieces) c.self.view_is
