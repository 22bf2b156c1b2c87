-- The users of this server, their groups, and the file that names them. The file is this project's own: lines ended by a line feed alone, each empty, a comment that begins with `#`, `user NAME HASH`, or `group NAME MEMBERS`.
-- Given: the octets of a file. Gives: the users and the groups in the order of their numbers, which count the lines of each from 0; or the place of the first line that is refused.
use Rattle.std.specs.Prelude.{ℕ, ◌+◌, Bool, true, false, not, ◌&&◌, ◌||◌, ◌==◌, nat_le, if◌then◌else◌, List, [], ◌∷◌, ◌++◌, map, filter, length, drop, position, bytes_eq, codes, Option, Some, None, is_none, option_map, option_to_list, Result, Ok, Err}
use Rattle.std.specs.List.{list_all, list_any, enumerate_from, filter_map}
use Rattle.cal_base.specs.Lines.ComponentTrees.{or_else}
use Rattle.cal_base.specs.Lines.ContentLines.{pieces, least}
use Rattle.cal_base.specs.Texts.Octets.{line_feed, space}
use Rattle.cal_model.specs.Words.Lists.{is_empty}

-- a user: the name, and the SHA-256 of the password in lower-case hexadecimal digits
pub record User : Type 0 where
  pub name : List ℕ
  pub digest : List ℕ

-- a group: the name, and the numbers of its members in order
pub record Group : Type 0 where
  pub name : List ℕ
  pub members : List ℕ

-- who may use the server, and as whom (RFC 3744, 2)
pub record Users : Type 0 where
  pub people : List User
  pub groups : List Group

-- the number of the user of a name, and of the group of a name
abbrev pub number_of : Users → List ℕ → Option ℕ
number_of users name = position (λ (user : User). bytes_eq name user.name) users.people

abbrev pub group_number_of : Users → List ℕ → Option ℕ
group_number_of users name = position (λ (group : Group). bytes_eq name group.name) users.groups

-- the most users and groups
abbrev pub user_limit : ℕ
user_limit = 32

abbrev pub group_limit : ℕ
group_limit = 16

-- Lines

abbrev pub is_small_letter : ℕ → Bool
is_small_letter octet = nat_le 97 octet && nat_le octet 122

abbrev pub is_digit : ℕ → Bool
is_digit octet = nat_le 48 octet && nat_le octet 57

-- `a-z 0-9 - _ .`
abbrev pub is_name_octet : ℕ → Bool
is_name_octet octet = is_small_letter octet || is_digit octet || (octet == 45) || (octet == 95) || (octet == 46)

-- 1 to 32 of these, a letter first
abbrev pub is_user_name : List ℕ → Bool
is_user_name [] = false
is_user_name (octet ∷ name) = is_small_letter octet && list_all is_name_octet name && nat_le (length name) 31

-- 64 of `0-9 a-f`
abbrev pub is_digest : List ℕ → Bool
is_digest text = (length text == 64) && list_all (λ octet. is_digit octet || nat_le 97 octet && nat_le octet 102) text

-- user NAME HASH, of the words of a line
abbrev pub user_of_words : List (List ℕ) → Option User
user_of_words (word ∷ name ∷ digest ∷ []) =
    if bytes_eq word (codes "user") && is_user_name name && is_digest digest then Some (record { name = name; digest = digest }) else None
user_of_words _ = None

-- the line of a user
abbrev pub user_of_line : List ℕ → Option User
user_of_line line = user_of_words (pieces space line)

-- no text stands twice
abbrev pub are_apart : List (List ℕ) → Bool
are_apart [] = true
are_apart (text ∷ more) = not (list_any (bytes_eq text) more) && are_apart more

-- a group with its members as they are named
pub record NamedGroup : Type 0 where
  pub name : List ℕ
  pub members : List (List ℕ)

-- group NAME MEMBERS, of the words of a line: at least one member, and each once
abbrev pub group_of_words : List (List ℕ) → Option NamedGroup
group_of_words (word ∷ name ∷ member ∷ members) =
    if bytes_eq word (codes "group") && is_user_name name && are_apart (member ∷ members) then Some (record { name = name; members = member ∷ members }) else None
group_of_words _ = None

-- the line of a group
abbrev pub group_of_line : List ℕ → Option NamedGroup
group_of_line line = group_of_words (pieces space line)

-- what a line names
pub data Entry : Type 0 where
  a_user : User → Entry
  a_group : NamedGroup → Entry

abbrev pub entry_of_line : List ℕ → Option Entry
entry_of_line line = or_else (option_map a_user (user_of_line line)) (option_map a_group (group_of_line line))

abbrev pub name_of : Entry → List ℕ
name_of (a_user user) = user.name
name_of (a_group group) = group.name

abbrev pub user_in : Entry → Option User
user_in (a_user user) = Some user
user_in (a_group group) = None

abbrev pub group_in : Entry → Option NamedGroup
group_in (a_user user) = None
group_in (a_group group) = Some group

-- a line that says nothing: it is empty, or a comment
abbrev pub is_silent : List ℕ → Bool
is_silent [] = true
is_silent (octet ∷ line) = octet == 35

abbrev pub is_bad_line : List ℕ → Bool
is_bad_line line = not (is_silent line) && is_none (entry_of_line line)

-- Files

-- something, and the place of its line
pub record LineItem (X : Type 0) : Type 0 where
  pub place : ℕ
  pub it : X

-- the pieces between the line feeds, each with its place, the first of them at a place
abbrev pub placed_from : ℕ → List (List ℕ) → List (LineItem (List ℕ))
placed_from place [] = []
placed_from place (line ∷ more) = record { place = place; it = line } ∷ placed_from (place + length line + 1) more

-- what stands behind the last line feed: not empty where the last line lacks its end
abbrev pub unended : LineItem (List ℕ) → Bool
unended last = not (is_empty last.it)

abbrev pub without_last : {X : Type 0} → List X → List X
without_last [] = []
without_last (x ∷ []) = []
without_last (x ∷ y ∷ xs) = x ∷ without_last (y ∷ xs)

abbrev pub last_of : {X : Type 0} → List X → List X
last_of [] = []
last_of (x ∷ []) = x ∷ []
last_of (x ∷ y ∷ xs) = last_of (y ∷ xs)

abbrev pub placed_lines : List ℕ → List (LineItem (List ℕ))
placed_lines octets = placed_from 0 (pieces line_feed octets)

-- what the lines name, in order
abbrev pub placed_by : {X : Type 0} → (List ℕ → Option X) → LineItem (List ℕ) → Option (LineItem X)
placed_by read line = option_map (λ it. record { place = line.place; it = it }) (read line.it)

abbrev pub placed_entries : List ℕ → List (LineItem Entry)
placed_entries octets = filter_map (placed_by entry_of_line) (without_last (placed_lines octets))

-- those that are of one sort
abbrev pub of_sort : {X : Type 0} → (Entry → Option X) → LineItem Entry → Option (LineItem X)
of_sort sort entry = option_map (λ it. record { place = entry.place; it = it }) (sort entry.it)

abbrev pub places : {X : Type 0} → List (LineItem X) → List ℕ
places xs = map (λ x. x.place) xs

-- the places of those that repeat a name, a user's or a group's
abbrev pub repeated : List (LineItem Entry) → List ℕ
repeated [] = []
repeated (entry ∷ more) = places (filter (λ other. bytes_eq (name_of entry.it) (name_of other.it)) more) ++ repeated more

-- a group has a member who is none of these users
abbrev pub has_stranger : List (List ℕ) → NamedGroup → Bool
has_stranger known group = list_any (λ member. not (list_any (bytes_eq member) known)) group.members

-- the places of the groups that have a member whom no line before theirs names as a user
abbrev pub with_strangers : List (List ℕ) → List (LineItem Entry) → List ℕ
with_strangers known [] = []
with_strangers known (entry ∷ more) =
    places (filter (λ placed. list_any (has_stranger known) (option_to_list (group_in placed.it))) (entry ∷ []))
    ++ with_strangers (map (λ (user : User). user.name) (option_to_list (user_in entry.it)) ++ known) more

-- The place of the first line that is refused: outside the grammar, without its end, with a name of an earlier line, of a user or a group too many, or of a group with a member who is not a user of an earlier line.
unfoldable pub users_fault : List ℕ → Option ℕ
users_fault octets =
    let lines = placed_lines octets in
    let entries = placed_entries octets in
    least (
    places (filter (λ line. is_bad_line line.it) (without_last lines))
    ++ places (filter unended (last_of lines))
    ++ repeated entries
    ++ places (drop user_limit (filter_map (of_sort user_in) entries))
    ++ places (drop group_limit (filter_map (of_sort group_in) entries))
    ++ with_strangers [] entries
    )

-- the numbers of the users whom a group names, in order
abbrev pub numbered_group : List User → NamedGroup → Group
numbered_group people group = record {
  name = group.name;
  members = map (λ (user : ℕ × User). user.0) (filter (λ (user : ℕ × User). list_any (bytes_eq user.1.name) group.members) (enumerate_from 0 people));
}

abbrev pub users_named : List Entry → Users
users_named entries =
    let people = filter_map user_in entries in
    record { people = people; groups = map (numbered_group people) (filter_map group_in entries) }

-- The users and the groups of a file in the order of their numbers, or the place of its first fault.
unfoldable pub users_of : List ℕ → Result Users ℕ
users_of octets = elim (users_fault octets) [ None ↦ Ok (users_named (map (λ entry. entry.it) (placed_entries octets))) | Some place ↦ Err place ]
