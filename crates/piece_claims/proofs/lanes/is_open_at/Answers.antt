use Rattle.std.proofs.Common.{◌≡◌, ◌∙◌, sym, ap, of_z, to_z, w32}
use Rattle.std.specs.List.{list_any}
use Rattle.std.proofs.lemmas.Int.{to_z-of_z}
use Rattle.cal_model.specs.Pieces.PieceLists.{rows_at}
use Rattle.piece_claims.specs.Out.{is_pair}
use Rattle.piece_claims.proofs.OutLemmas.{claimed_out, by_piece, other_way}
use Rattle.piece_claims.proofs.lanes.is_open_at.Goals as goal

pub returns-then-is_out : goal.returns-then-is_out
returns-then-is_out c =
    let whole : to_z w32 (of_z w32 c.args.window) ≡ c.args.window = to_z-of_z w32 c.args.window c.ranges.window in
    claimed_out c.args.alive c.args.index.now.pieces c.args.out.now c.args.origin c.args.window
    (ap (λ w. list_any (is_pair c.args.origin w) c.args.out.now) (sym whole) ∙ sym c.is_out.ensures ∙ c.if-is_out.true)

pub returns : goal.returns
returns c =
    let whole : to_z w32 (of_z w32 c.args.window) ≡ c.args.window = to_z-of_z w32 c.args.window c.ranges.window in
    other_way _ _ c.is_none.ensures
    ∙ by_piece c.args.alive c.args.index.now.pieces c.args.out.now c.args.origin c.args.window c.get.result c.if-not-alive.false
    (ap (λ w. list_any (is_pair c.args.origin w) c.args.out.now) (sym whole) ∙ sym c.is_out.ensures ∙ c.if-is_out.false)
    (c.get.ensures ∙ ap (λ w. rows_at c.args.origin w c.args.index.now.pieces) whole)
