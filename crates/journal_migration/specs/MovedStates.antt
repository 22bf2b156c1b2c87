-- Two states, of old users and of new ones, that have the same homes: each under the number that its user has there.
-- Given: the old and the new users, and the state of each.
use Rattle.std.specs.Prelude.{◌≡◌, ℕ, ◌<◌, length, Some, None, option_map}
use Rattle.cal_model.specs.State.ServerState.{ServerState, directory_of, user_number, user_name, first_home, home_at}
use Rattle.cal_model.specs.Users.UsersFile.{Users}
use Rattle.journal_migration.specs.Renumbering.{moved_user, moved_home}

-- Each user of the old ones has the same home under the new number, but for the numbers in its grants; and whoever is new has the home of the start.
pub record HaveSameHomes (old new : Users) (before after : ServerState) : Type 0 where
  pub kept : (user : ℕ) → user < length old.people → home_at after (moved_user old new user) ≡ option_map (moved_home old new) (home_at before user)
  pub first : (user : ℕ) → user < length new.people → user_number (directory_of old) (user_name (directory_of new) user) ≡ None → home_at after user ≡ Some first_home
