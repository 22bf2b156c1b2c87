-- What an entry of the journal, and a publication, make of what a board shows.
use Rattle.std.specs.Prelude.{◌≡◌, ℕ, ◌+◌, ◌<◌, Bool, false, not, ◌&&◌, List, [], ◌∷◌, ◌++◌, length, filter, is_some, Option, Some, None}
use Rattle.cal_model.specs.declared.piece.Piece.{Piece}
use Rattle.cal_model.specs.History.Claims.{Work}
use Rattle.cal_model.specs.History.Journal.{Entry}
use Rattle.cal_model.specs.History.LiveObjects.{Placed, ends, live_at, placed_by}
use Rattle.number_set.specs.Sets.{has}
use Rattle.piece_claims.specs.Boards.{Board}

-- the pieces of entries that are flagged
abbrev pub pieces_of_live : List Bool → List Piece → List Piece
pieces_of_live live pieces = filter (λ (piece : Piece). has live piece.origin) pieces

-- an entry ends an object, if it is there
abbrev pub ends_it : Entry → Option Placed → Bool
ends_it entry None = false
ends_it entry (Some placed) = ends placed entry.change

-- the flags after one more entry: its own says whether it made an object, and those of the objects that it ended are no longer set
pub record HasEntry (old new : Board) (journal : List Entry) (entry : Entry) : Type 0 where
  pub entries : length new.live ≡ length old.live + 1
  pub last : has new.live (length old.live) ≡ is_some (placed_by entry.change)
  pub others : (n : ℕ) → n < length old.live → has new.live n ≡ (has old.live n && not (ends_it entry (live_at journal n)))

-- the work after the entry, with what else the board shows
abbrev pub work_with : Entry → Board → Work → Work
work_with entry board work = record { journal = work.journal ++ entry ∷ []; latest = board.latest; pieces = board.pieces; out = board.out }
