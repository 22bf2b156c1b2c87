-- The piece at an index of a list, and what a walk over the list has counted by then.
use Rattle.std.proofs.Common.{◌≡◌, ◌≢◌, ℕ, ◌+◌, ◌≤◌, ◌<◌, Bool, true, false, if◌then◌else◌, List, [], ◌∷◌, filter, length, drop, get_or, sym, ap, ◌∙◌, arith}
use Rattle.std.proofs.lemmas.List.{drop_more}
use Rattle.cal_model.specs.declared.piece.Piece.{Piece}
use Rattle.cal_model.specs.Pieces.PieceLists.{is_other_piece, rows_in}

drop_at : (ps : List Piece) (i : ℕ) (p : Piece) → i < length ps → p ≡ get_or ps i p → drop i ps ≡ p ∷ drop (i + 1) ps
drop_at ps i p within is = drop_more ps i p within ∙ ap (λ q. q ∷ drop (i + 1) ps) (sym is)

pub rows_in_filter_le : (q : Piece → Bool) (ps : List Piece) → rows_in (filter q ps) ≤ rows_in ps
rows_in_filter_le q [] = omega arith
rows_in_filter_le q (p ∷ ps) =
    elim (q p) as (λ b. rows_in (if b then p ∷ filter q ps else filter q ps) ≤ length p.rows + rows_in ps) [
      | true ↦ omega (arith, rows_in_filter_le q ps)
      | false ↦ omega (arith, rows_in_filter_le q ps)
    ]

pub others_counted : (o : ℕ) (ps : List Piece) (i : ℕ) (p : Piece) → i < length ps → p ≡ get_or ps i p → p.origin ≢ o → rows_in (filter (is_other_piece o) (drop i ps)) ≡ length p.rows + rows_in (filter (is_other_piece o) (drop (i + 1) ps))
others_counted o ps i p within is far =
    let kept : filter (is_other_piece o) (p ∷ drop (i + 1) ps) ≡ p ∷ filter (is_other_piece o) (drop (i + 1) ps) = grind arith in
    ap (λ xs. rows_in (filter (is_other_piece o) xs)) (drop_at ps i p within is) ∙ ap rows_in kept
