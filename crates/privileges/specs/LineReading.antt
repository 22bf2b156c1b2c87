-- A users file read line by line: what one line adds to the users and the groups that are known, or its place where it is refused.
use Rattle.std.specs.Prelude.{ℕ, ◌+◌, Bool, not, ◌&&◌, ◌||◌, nat_lt, if◌then◌else◌, List, [], ◌∷◌, length, Option, Some, None, is_some, Result, Ok, Err}
use Rattle.std.specs.List.{list_all}
use Rattle.cal_model.specs.Users.UsersFile.{User, NamedGroup, Users, Entry, a_user, a_group, number_of, group_number_of, user_limit, group_limit, numbered_group, are_apart, entry_of_line, is_silent}
use Rattle.cal_model.specs.Words.Lists.{is_empty}
use Rattle.privileges.specs.KnownUsers.{and_user, and_group}

-- a user or a group has the name
abbrev pub is_taken : Users → List ℕ → Bool
is_taken users name = is_some (number_of users name) || is_some (group_number_of users name)

-- there is room for one more user, and nobody has the name
abbrev pub is_welcome : Users → User → Bool
is_welcome users user = nat_lt (length users.people) user_limit && not (is_taken users user.name)

-- there is room for one more group, nobody has the name, and its members are users
abbrev pub is_welcome_group : Users → NamedGroup → Bool
is_welcome_group users group =
    nat_lt (length users.groups) group_limit && not (is_taken users group.name) && list_all (λ member. is_some (number_of users member)) group.members

-- with what a line names, or the place of the line
abbrev pub with_user : Users → ℕ → User → Result Users ℕ
with_user users place user = if is_welcome users user then Ok (and_user users user) else Err place

abbrev pub with_group : Users → ℕ → NamedGroup → Result Users ℕ
with_group users place group = if is_welcome_group users group then Ok (and_group users (numbered_group users.people group)) else Err place

abbrev pub with_entry : Users → ℕ → Entry → Result Users ℕ
with_entry users place (a_user user) = with_user users place user
with_entry users place (a_group group) = with_group users place group

-- with a group of which some members may stand twice
abbrev pub with_named : Users → ℕ → NamedGroup → Result Users ℕ
with_named users place group = if are_apart group.members then with_group users place group else Err place

-- after a line that names a user or a group, or neither
abbrev pub after_line : Users → ℕ → Bool → Option Entry → Result Users ℕ
after_line users place silent None = if silent then Ok users else Err place
after_line users place silent (Some entry) = with_entry users place entry

abbrev pub read_line : Users → ℕ → List ℕ → Result Users ℕ
read_line users place line = after_line users place (is_silent line) (entry_of_line line)

-- the lines from a place on, where users are known: what stands behind the last line feed has to be empty
abbrev pub read_on : Users → ℕ → List (List ℕ) → Result Users ℕ
read_on users place [] = Ok users
read_on users place (last ∷ []) = if is_empty last then Ok users else Err place
read_on users place (line ∷ next ∷ more) = elim (read_line users place line) [
  | Ok known ↦ read_on known (place + length line + 1) (next ∷ more)
  | Err refused ↦ Err refused
]
