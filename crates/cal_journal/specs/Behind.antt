-- What is behind the first entries of a journal: what has followed them so far.
-- Given: a journal, how many of its entries were followed, and a state with the origins of its objects.
use Rattle.std.specs.Prelude.{◌≡◌, ℕ, ◌≤◌, List, length, take}
use Rattle.cal_model.specs.State.ServerState.{Directory, ServerState}
use Rattle.cal_model.specs.History.Journal.{Entry, replay}
use Rattle.cal_model.specs.History.Origins.{Origins, AreLive}

-- So many entries there are, the state is the one that they lead to, and the origins are those of the objects that they left.
pub record IsBehind (directory : Directory) (journal : List Entry) (n : ℕ) (state : ServerState) (origins : Origins) : Type 0 where
  pub within : n ≤ length journal
  pub state_is : state ≡ replay directory (take n journal)
  pub live : AreLive (take n journal) origins
