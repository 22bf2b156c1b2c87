-- How many users and groups a journal file is of: what numbers in its records are held against.
-- Given: the users.
use Rattle.std.specs.Prelude.{◌<◌, ◌^◌, length}
use Rattle.cal_model.specs.Users.UsersFile.{Users}
use Rattle.cal_keeper.specs.declared.principals.PrincipalCounts.{PrincipalCounts}

abbrev pub counts_of : Users → PrincipalCounts
counts_of users = record { users = length users.people; groups = length users.groups }

-- each of their numbers has four octets
abbrev pub AreFew : PrincipalCounts → Type 0
AreFew counts = (counts.users < 2 ^ 32) × (counts.groups < 2 ^ 32)
