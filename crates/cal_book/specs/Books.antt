-- What holds of a book as it is kept.
use Rattle.std.specs.Prelude.{◌≡◌, ℕ, []}
use Rattle.cal_base.specs.Lists.Reserved.{Reserved}
use Rattle.piece_claims.specs.Boards.{Board}
use Rattle.cal_book.specs.Keeping.KeptHistories.{Kept, users_in}
use Rattle.cal_book.specs.Cores.{Core, spare_of}
use Rattle.cal_book.specs.UpToDate.{IsUpToDate, work_with}

abbrev pub core_of : Kept → Board → Reserved ℕ → Core
core_of history board room = record { users = users_in history; work = work_with history.journal board; spare = spare_of history.room board.room room.room }

-- the board is that of the journal, and the room for a reply is empty
pub record IsBook (history : Kept) (board : Board) (room : Reserved ℕ) : Type 0 where
  pub up_to_date : IsUpToDate history.journal board
  pub empty : room.items ≡ []
