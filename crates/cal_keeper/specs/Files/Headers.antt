-- The header of a journal file: the mark, and the users and groups that the file is of behind the length of their text.
-- Given: the users.
use Rattle.std.specs.Prelude.{◌≡◌, ℕ, ◌<◌, ◌^◌, List, [], ◌∷◌, ◌++◌, length, filter, flat_map, codes}
use Rattle.std.specs.Int.{w32, to_be_bytes}
use Rattle.std.specs.List.{range_with_len}
use Rattle.cal_base.specs.Texts.Octets.{line_feed, space}
use Rattle.cal_model.specs.State.ServerState.{Directory, directory_of, user_name, group_name, is_member}
use Rattle.cal_model.specs.Users.UsersFile.{Users}

-- the 16 octets that each journal file begins with
abbrev pub mark : List ℕ
mark = codes "caldavjournal 1" ++ line_feed ∷ []

-- the line of the user of a number
abbrev pub user_line : Directory → ℕ → List ℕ
user_line directory user = codes "user " ++ user_name directory user ++ line_feed ∷ []

-- the name of a user behind a space
abbrev pub member_text : Directory → ℕ → List ℕ
member_text directory user = space ∷ user_name directory user

-- the members of the group of a number, in the order of their own numbers
abbrev pub members_of : Directory → ℕ → List ℕ
members_of directory group = filter (is_member directory group) (range_with_len 0 (length directory.names))

-- the line of a group: its name, and those of its members
abbrev pub group_line : Directory → ℕ → List ℕ
group_line directory group = codes "group " ++ group_name directory group ++ flat_map (member_text directory) (members_of directory group) ++ line_feed ∷ []

-- The text of users: a line for each user, and then one for each group, both in the order of their numbers.
abbrev pub users_text : Users → List ℕ
users_text users =
    let directory = directory_of users in
    flat_map (user_line directory) (range_with_len 0 (length users.people)) ++ flat_map (group_line directory) (range_with_len 0 (length users.groups))

-- the header of a text of users, whose length has four octets
abbrev pub header_with : List ℕ → List ℕ
header_with text = mark ++ to_be_bytes w32 (length text) ++ text

-- The header of a file of these users.
abbrev pub header_of : Users → List ℕ
header_of users = header_with (users_text users)

-- octets begin with the form of a header: the mark, a length, and a text of that length
abbrev pub HasHeader : List ℕ → List ℕ → Type 0
HasHeader text octets = (length text < 2 ^ 32) × (rest : List ℕ) × (octets ≡ header_with text ++ rest)
