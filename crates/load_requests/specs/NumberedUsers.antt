-- The users of the sessions.
use Rattle.std.specs.Prelude.{◌≡◌, ℕ, ◌<◌, Some}
use Rattle.cal_model.specs.Load.LoadRequests.{load_user}
use Rattle.cal_model.specs.State.ServerState.{directory_of, user_number}
use Rattle.cal_model.specs.Users.UsersFile.{Users}

-- the user of a session's name has its number
abbrev pub AreNumbered : Users → ℕ → Type 0
AreNumbered users sessions = (k : ℕ) → k < sessions → user_number (directory_of users) (load_user k) ≡ Some k
