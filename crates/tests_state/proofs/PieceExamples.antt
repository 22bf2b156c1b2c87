-- Worked examples of the definitions on lists of pieces, each computed.
use Rattle.std.proofs.Common.{◌≡◌, ℕ, List, [], ◌∷◌, filter, length, refl}
use Rattle.std.specs.Prelude.{pos}
use Rattle.cal_model.specs.declared.piece.Piece.{Piece}
use Rattle.cal_model.specs.declared.row.Row.{Row}
use Rattle.cal_model.specs.declared.row.RowKind.TheVariants.{Instant}
use Rattle.cal_model.specs.Pieces.PieceLists.{is_piece_of, is_other_piece, newest_within, rows_in}

row : Row
row = record { id = pos 0; start = pos 0; end = pos 0; component = 0; id_kind = Instant; kind = Instant }

-- a piece of two rows
abbrev pair_at : ℕ → ℕ → Piece
pair_at origin window = record { origin = origin; window = pos window; rows = row ∷ row ∷ [] }

-- objects 7, 8, 7, 9 and 7
abbrev five : List Piece
five = pair_at 7 1 ∷ pair_at 8 1 ∷ pair_at 7 2 ∷ pair_at 9 1 ∷ pair_at 7 3 ∷ []

three_steps : length (filter (is_piece_of 7) five) ≡ 3
three_steps = refl

four_rows_left : rows_in (filter (is_other_piece 7) five) ≡ 4
four_rows_left = refl

oldest_goes : newest_within 2 (filter (is_other_piece 7) five) ≡ pair_at 9 1 ∷ []
oldest_goes = refl

-- a piece goes whole, also where a part of its rows would fit
a_part_does_not_stay : newest_within 3 five ≡ pair_at 7 3 ∷ []
a_part_does_not_stay = refl

none_goes_where_all_fit : newest_within 10 five ≡ five
none_goes_where_all_fit = refl
