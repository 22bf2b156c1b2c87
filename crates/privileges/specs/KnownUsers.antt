-- What holds of the users and the groups of a file, and of the maps from their names to their numbers.
use Rattle.std.specs.Prelude.{◌≡◌, ℕ, ◌≤◌, List, [], ◌∷◌, ◌++◌, All, length}
use Rattle.cal_base.specs.Lists.NameMap.{Named, value_at}
use Rattle.cal_model.specs.State.ServerState.{directory_of}
use Rattle.cal_model.specs.State.UserNames.{AreToldApart}
use Rattle.cal_model.specs.Users.UsersFile.{User, Group, Users, number_of, group_number_of, user_limit, group_limit}

-- the most octets of a name
abbrev pub name_limit : ℕ
name_limit = 32

-- with a user or a group more
abbrev pub and_user : Users → User → Users
and_user users user = record { people = users.people ++ user ∷ []; groups = users.groups }

abbrev pub and_group : Users → Group → Users
and_group users group = record { people = users.people; groups = users.groups ++ group ∷ [] }

-- a group's name has at most 200 octets
abbrev pub IsShortGroup : Group → Type 0
IsShortGroup group = length group.name ≤ 200

-- The maps have each number at its name, and nothing else; users and groups are few, their names are short and tell them apart.
pub record AreKnown (users : Users) (numbers group_numbers : Named ℕ) : Type 0 where
  pub agree : (name : List ℕ) → value_at numbers name ≡ number_of users name
  pub agree_groups : (name : List ℕ) → value_at group_numbers name ≡ group_number_of users name
  pub few : length users.people ≤ user_limit
  pub few_groups : length users.groups ≤ group_limit
  pub told : AreToldApart (directory_of users)
  pub short : All (λ name. length name ≤ name_limit) (directory_of users).names
  pub short_groups : All (λ (group : Group). length group.name ≤ name_limit) users.groups
