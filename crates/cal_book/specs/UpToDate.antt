-- What a book keeps in step: the journal, and the board by which claims are made. Each flag of the board says whether the object of that entry is still there, and each piece is right.
-- Given: a journal and a board.
use Rattle.std.specs.Prelude.{◌≡◌, ℕ, List, length, is_some}
use Rattle.std.specs.List.{AllByRecursion}
use Rattle.cal_model.specs.History.Claims.{Work}
use Rattle.cal_model.specs.History.Journal.{Entry}
use Rattle.cal_model.specs.History.LiveObjects.{live_at}
use Rattle.cal_model.specs.History.RightPieces.{IsRight}
use Rattle.number_set.specs.Sets.{has}
use Rattle.piece_claims.specs.Boards.{Board}

pub record IsUpToDate (journal : List Entry) (board : Board) : Type 0 where
  pub entries : length journal ≡ length board.live
  pub live : (n : ℕ) → is_some (live_at journal n) ≡ has board.live n
  pub right : AllByRecursion (IsRight journal) board.pieces

-- what claims depend on
abbrev pub work_with : List Entry → Board → Work
work_with journal board = record { journal = journal; latest = board.latest; pieces = board.pieces; out = board.out }
