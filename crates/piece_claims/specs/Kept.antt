-- What a keeper of claims keeps.
use Rattle.std.specs.Prelude.{◌≡◌, ℕ, ◌≤◌, ◌^◌, Bool, false, List, length, ℤ, pos, negsuc, ◌-ℤ◌, ◌≤ℤ◌}
use Rattle.cal_model.specs.Instances.Rows.{window_at}
use Rattle.cal_model.specs.declared.piece.Piece.{Piece}
use Rattle.number_set.specs.Sets.{has}
use Rattle.std.specs.Prelude.{true}
use Rattle.std.specs.List.{AllByRecursion}
use Rattle.cal_model.specs.Pieces.KeptPieces.{KeptPieces}
use Rattle.cal_model.specs.Pieces.PieceLists.{rows_in, ArePairsApart}
use Rattle.piece_claims.specs.Boards.{rows_limit}
use Rattle.piece_claims.specs.Counts.{AreCounts}
use Rattle.piece_claims.specs.Lanes.{AreLanes, AreOpen}
use Rattle.piece_claims.specs.Out.{pairs_out}

-- the first window of the horizon
abbrev pub first_of : ℤ → ℤ
first_of latest = window_at latest -ℤ pos 4

-- each piece is of an entry whose object is still there
abbrev pub AreOfLive : List Bool → List Piece → Type 0
AreOfLive live pieces = AllByRecursion (λ (piece : Piece). has live piece.origin ≡ true) pieces

-- the sets have room for so many entries, of which the first are known; each flag is that of an open pair
pub record IsKept (pieces : List Piece) (out : List (ℕ × ℤ)) (out_room : ℕ) (latest first : ℤ) (live : List Bool) (entries limit : ℕ) (lanes : List (List Bool)) : Type 0 where
  pub lanes_wide : AreLanes lanes limit
  pub live_wide : limit ≤ length live
  pub fits : entries ≤ limit
  pub unknown : (n : ℕ) → entries ≤ n → has live n ≡ false
  pub claims : length out ≤ 64
  pub claims_fit : 64 ≤ out_room
  pub horizon : first ≡ first_of latest
  pub low : negsuc (2 ^ 30) ≤ℤ first
  pub high : first ≤ℤ pos (2 ^ 30)
  pub are_open : AreOpen lanes first live pieces (pairs_out out)

-- how many rows the index takes, so that none goes before a new piece is in
abbrev pub index_limit : ℕ
index_limit = 8_000_000

-- the pieces are of live entries and within their limit, and their rows are counted by window
pub record IsStored (index : KeptPieces) (first : ℤ) (live : List Bool) (counts : List ℕ) : Type 0 where
  pub room : index.budget ≡ index_limit
  pub within : rows_in index.pieces ≤ rows_limit
  pub apart : ArePairsApart index.pieces
  pub of_live : AreOfLive live index.pieces
  pub counted : AreCounts counts first index.pieces
