-- Pieces between two windows.
use Rattle.std.proofs.Common.{◌≡◌, ◌⊎◌, ℕ, Bool, true, false, if◌then◌else◌, List, [], ◌∷◌, ◌++◌, None, Some, refl, inl, inr, arith, ℤ, ◌≤ℤ◌, ◌<ℤ◌}
use Rattle.std.proofs.lemmas.Int.{ints}
use Rattle.cal_model.specs.declared.piece.Piece.{Piece}
use Rattle.cal_model.specs.Pieces.PieceLists.{is_piece_at, rows_at, newest_within}
use Rattle.cal_model.proofs.Pieces.PieceListLaws.{pair_is}
use Rattle.cal_model.proofs.Pieces.FoundPieces.{All-newest_within, All-snoc}
use Rattle.piece_index.specs.Bounds.{IsBetween, AreBetween}

wider : (least greatest least' greatest' : ℤ) (pieces : List Piece) → least' ≤ℤ least → greatest ≤ℤ greatest' → AreBetween least greatest pieces → AreBetween least' greatest' pieces
wider least greatest least' greatest' [] below above h = tt
wider least greatest least' greatest' (piece ∷ pieces) below above h =
    let low = h.0.0 in
    let high = h.0.1 in
    ((omega (arith, ints, low, below), omega (arith, ints, high, above)), wider least greatest least' greatest' pieces below above h.1)

-- a new piece between wider bounds, and those that are left beside it
pub between_after_add : (room : ℕ) (least greatest least' greatest' : ℤ) (piece : Piece) (pieces : List Piece) → least' ≤ℤ least → greatest ≤ℤ greatest' → least' ≤ℤ piece.window → piece.window ≤ℤ greatest' → AreBetween least greatest pieces → AreBetween least' greatest' (newest_within room (pieces ++ piece ∷ []))
between_after_add room least greatest least' greatest' piece pieces below above low high h =
    All-newest_within (IsBetween least' greatest') room (pieces ++ piece ∷ [])
    (All-snoc (IsBetween least' greatest') pieces piece (wider least greatest least' greatest' pieces below above h) (low, high))

-- no piece is found of a window outside the bounds
pub none_outside : (origin : ℕ) (window least greatest : ℤ) (pieces : List Piece) → ((window <ℤ least) ⊎ (greatest <ℤ window)) → AreBetween least greatest pieces → rows_at origin window pieces ≡ None
none_outside origin window least greatest [] outside h = refl
none_outside origin window least greatest (piece ∷ pieces) outside h =
    by_test (none_outside origin window least greatest pieces outside h.1) (is_piece_at origin window piece) refl
  where
    by_test : rows_at origin window pieces ≡ None → (b : Bool) → is_piece_at origin window piece ≡ b → (if b then Some piece.rows else rows_at origin window pieces) ≡ None
    by_test later false is = later
    by_test later true is =
        let same : piece.window ≡ window = (pair_is origin window piece is).1 in
        let low = h.0.0 in
        let high = h.0.1 in
        absurd (elim outside [ inl below ↦ omega (arith, ints, same, low, below) | inr above ↦ omega (arith, ints, same, high, above) ])
