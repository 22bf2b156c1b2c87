-- What claims depend on, with the journal seen as one flag for each entry: it made an object that is still there. Nothing else of the journal decides which piece is expanded next.
use Rattle.std.specs.Prelude.{◌≡◌, ℕ, ◌-◌, Bool, not, ◌&&◌, ◌||◌, nat_le, int_lt, if◌then◌else◌, List, [], ◌∷◌, ◌++◌, length, map, filter, flat_map, is_some, Option, Some, None, ℤ}
use Rattle.std.specs.List.{list_any, range_with_len}
use Rattle.std.specs.Option.{option_map}
use Rattle.cal_base.specs.Lines.ComponentTrees.{first}
use Rattle.cal_model.specs.History.LiveObjects.{live_at}
use Rattle.cal_model.specs.History.Claims.{Pair, Work, horizon, pair_of, same_pair, claims_limit, enough_rows, rows_in_horizon, with_claim, without_claim}
use Rattle.cal_model.specs.Pieces.PieceLists.{rows_at, newest_within}
use Rattle.cal_model.specs.declared.piece.Piece.{Piece}
use Rattle.cal_model.specs.declared.row.Row.{Row}
use Rattle.number_set.specs.Sets.{has}

-- the flags of the entries; the greatest moment; the pieces from the oldest to the newest; the pairs that are claimed out; and for
-- how many entries more there is room
pub record Board : Type 0 where
  pub live : List Bool
  pub latest : ℤ
  pub pieces : List Piece
  pub out : List Pair
  pub room : ℕ

-- the same without the journal
abbrev pub work_of : Board → Work
work_of board = record { journal = []; latest = board.latest; pieces = board.pieces; out = board.out }

abbrev pub pair_at : ℕ → ℤ → Pair
pair_at origin window = record { origin = origin; window = window }

-- a pair of an object that is alive, or is not, is open where it has no piece and is not out
abbrev pub is_open_if : Bool → List Piece → List Pair → Pair → Bool
is_open_if alive pieces out pair = alive && not (list_any (λ piece. same_pair (pair_of piece) pair) pieces) && not (list_any (same_pair pair) out)

abbrev pub is_open : Board → Pair → Bool
is_open board pair = is_open_if (has board.live pair.origin) board.pieces board.out pair

abbrev pub pairs_of : Board → ℤ → List Pair
pairs_of board window = map (λ origin. pair_at origin window) (range_with_len 0 (length board.live))

abbrev pub open_pairs : Board → List Pair
open_pairs board = filter (is_open board) (flat_map (pairs_of board) (horizon (work_of board)))

-- The next claim, as History.Claims has it.
abbrev pub is_full : Board → Bool
is_full board = nat_le claims_limit (length board.out) || nat_le enough_rows (rows_in_horizon (work_of board))

abbrev pub next_of : Board → Option Pair
next_of board = if is_full board then None else first (open_pairs board)

-- a board shows what a server's claims depend on
pub record Shows (board : Board) (work : Work) : Type 0 where
  pub entries : length work.journal ≡ length board.live
  pub live : (n : ℕ) → is_some (live_at work.journal n) ≡ has board.live n
  pub latest : work.latest ≡ board.latest
  pub pieces : work.pieces ≡ board.pieces
  pub out : work.out ≡ board.out

-- the pairs out after a claim that was given, if any
abbrev pub out_after : Option Pair → List Pair → List Pair
out_after None out = out
out_after (Some pair) out = with_claim pair out

-- a pair by its numbers, if there is one
abbrev pub pair_in : Option (ℕ × ℤ) → Option Pair
pair_in numbers = option_map (λ (p : ℕ × ℤ). pair_at p.0 p.1) numbers

-- the most rows that the pieces have in all
abbrev pub rows_limit : ℕ
rows_limit = 4_000_000

-- Publishing: a piece of a pair that has one already changes nothing; else as few of the oldest go as make room, and it is the newest.
abbrev pub pieces_with : Piece → List Piece → List Piece
pieces_with piece pieces =
    if is_some (rows_at piece.origin piece.window pieces) then pieces else newest_within (rows_limit - length piece.rows) pieces ++ piece ∷ []

-- how many pieces go by age for it
abbrev pub gone_for : Piece → List Piece → ℕ
gone_for piece pieces =
    if is_some (rows_at piece.origin piece.window pieces) then 0 else length pieces - length (newest_within (rows_limit - length piece.rows) pieces)

abbrev pub piece_at : ℕ → ℤ → List Row → Piece
piece_at origin window rows = record { origin = origin; window = window; rows = rows }

-- the board after it, and after a publication that found no memory: the claim has ended in both
abbrev pub published : Piece → Board → Board
published piece board = record board { pieces = pieces_with piece board.pieces; out = without_claim (pair_of piece) board.out }

abbrev pub ended : ℕ → ℤ → Board → Board
ended origin window board = record board { out = without_claim (pair_at origin window) board.out }

-- the later of two moments
abbrev pub later : ℤ → ℤ → ℤ
later latest moment = if int_lt latest moment then moment else latest
