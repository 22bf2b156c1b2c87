-- Users and groups that are told apart by their names, as those of a users file are: a request names a user or a group by the name alone.
-- Given: the users and the groups.
use Rattle.std.specs.Prelude.{◌≡◌, ℕ, ◌<◌, [], length, Some, None}
use Rattle.cal_model.specs.State.ServerState.{Directory, user_number, user_name, group_number, group_name}

-- each user and each group is found by the own name, none is without one, and no user has a group's
pub record AreToldApart (directory : Directory) : Type 0 where
  pub own : (user : ℕ) → user < length directory.names → user_number directory (user_name directory user) ≡ Some user
  pub named : user_number directory [] ≡ None
  pub own_group : (group : ℕ) → group < length directory.groups → group_number directory (group_name directory group) ≡ Some group
  pub named_group : group_number directory [] ≡ None
  pub apart : (group : ℕ) → group < length directory.groups → user_number directory (group_name directory group) ≡ None
