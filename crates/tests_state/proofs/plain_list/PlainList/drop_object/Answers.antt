use Rattle.std.proofs.Common.{◌≡◌, ◌∙◌, filter, ap, sym, subst, arith}
use Rattle.cal_model.specs.Pieces.PieceLists.{ArePairsApart, is_other_piece, rows_in}
use Rattle.cal_model.proofs.Pieces.PieceListLaws.{apart_pairs_filter}
use Rattle.tests_state.proofs.PlainListLaws.{rows_in_filter_le}
use Rattle.tests_state.proofs.plain_list.PlainList.drop_object.Goals as goal

pub invariant_of-self : goal.invariant_of-self
invariant_of-self g c =
    let total = rows_in_filter_le (is_other_piece c.args.origin) c.self.inside.pieces.items in
    let counted : c.rows_of_others-self-inside.result ≡ rows_in (filter (is_other_piece c.args.origin) c.self.inside.pieces.items) =
    c.rows_of_others-self-inside.ensures ∙ ap (λ ps. rows_in (filter (is_other_piece c.args.origin) ps)) c.as_slice-2.ensures.value in
    record {
      counted = counted ∙ ap rows_in (sym c.retain_others.ensures);
      fits = omega arith;
      apart = subst ArePairsApart (sym c.retain_others.ensures) (apart_pairs_filter (is_other_piece c.args.origin) _ c.self.invariant.apart);
    }
