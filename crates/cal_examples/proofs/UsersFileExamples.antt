-- Users files that are read, and the places of those that are refused.
use Rattle.std.specs.Prelude.{◌≡◌, refl, ℕ, ◌+◌, ◌/◌, ◌%◌, List, [], ◌∷◌, ◌++◌, flat_map, take, Ok, Err, Some, None, codes, replicate}
use Rattle.cal_model.specs.Words.Lists.{numbers_between, counted_from}
use Rattle.cal_model.specs.Users.UsersFile.{User, Users, users_fault, users_of}

-- the SHA-256 of `abc`
abbrev digest : List ℕ
digest = codes "ba7816bf8f01cfea414140de5dae2223b00361a396177a9cb410ff61f20015ad"

abbrev user : List ℕ → User
user name = record { name = name; digest = digest }

-- users without groups
abbrev only : List User → Users
only people = record { people = people; groups = [] }

-- the line of a user whose password is `abc`
abbrev user_line : List ℕ → List ℕ
user_line name = codes "user " ++ (name ++ (codes " " ++ (digest ++ codes "\n")))

-- the lines of some users, u000, u001 and so on
abbrev name_of : ℕ → List ℕ
name_of number = codes "u" ++ (48 + number / 100) ∷ (48 + number % 100 / 10) ∷ (48 + number % 10) ∷ []

abbrev lines_of : List ℕ → List ℕ
lines_of numbers = flat_map (λ number. user_line (name_of number)) numbers

-- Lines

-- a file without users
pub empty_file : users_of [] ≡ Ok (only [])
unfolding users_of users_fault
empty_file = refl

pub one_user : users_of (user_line (codes "alice")) ≡ Ok (only (user (codes "alice") ∷ []))
unfolding users_of users_fault
one_user = refl

-- numbers go by the lines of users
pub users_in_order : users_of (user_line (codes "bob") ++ (codes "\n# c\n" ++ user_line (codes "alice"))) ≡ Ok (only (user (codes "bob") ∷ user (codes "alice") ∷ []))
unfolding users_of users_fault
users_in_order = refl

pub comment_of_any_octets : users_of (codes "# x" ++ (255 ∷ 0 ∷ codes "\n")) ≡ Ok (only [])
unfolding users_of users_fault
comment_of_any_octets = refl

pub space_before_comment : users_of (codes " # x\n") ≡ Err 0
unfolding users_of users_fault
space_before_comment = refl

-- lines end in a line feed alone
pub return_behind_line : users_of (codes "\r\n") ≡ Err 0
unfolding users_of users_fault
return_behind_line = refl

-- its own place is told
pub last_line_without_end_behind_user : users_of (user_line (codes "alice") ++ codes "#") ≡ Err 76
unfolding users_of users_fault
last_line_without_end_behind_user = refl

pub two_spaces : users_of (codes "user  alice " ++ (digest ++ codes "\n")) ≡ Err 0
unfolding users_of users_fault
two_spaces = refl

pub digest_too_short : users_of (codes "user alice " ++ (take 63 digest ++ codes "\n")) ≡ Err 0
unfolding users_of users_fault
digest_too_short = refl

pub digest_in_capitals : users_of (codes "user alice BA7816BF8F01CFEA414140DE5DAE2223B00361A396177A9CB410FF61F20015AD\n") ≡ Err 0
unfolding users_of users_fault
digest_in_capitals = refl

-- Names

pub every_name_octet : users_of (user_line (codes "a-b_c.9")) ≡ Ok (only (user (codes "a-b_c.9") ∷ []))
unfolding users_of users_fault
every_name_octet = refl

pub digit_in_front : users_of (user_line (codes "1a")) ≡ Err 0
unfolding users_of users_fault
digit_in_front = refl

pub name_in_capitals : users_of (user_line (codes "alice") ++ user_line (codes "Bob")) ≡ Err 76
unfolding users_of users_fault
name_in_capitals = refl

pub longest_name : users_of (user_line (replicate 32 97)) ≡ Ok (only (user (replicate 32 97) ∷ []))
unfolding users_of users_fault
longest_name = refl

pub name_too_long : users_of (user_line (replicate 33 97)) ≡ Err 0
unfolding users_of users_fault
name_too_long = refl

-- the later line is at fault
pub name_repeated : users_of (user_line (codes "alice") ++ (user_line (codes "bob") ++ user_line (codes "alice"))) ≡ Err 150
unfolding users_of users_fault
name_repeated = refl

pub bad_line_before_repeated : users_of (user_line (codes "alice") ++ (codes "x\n" ++ user_line (codes "alice"))) ≡ Err 76
unfolding users_of users_fault
bad_line_before_repeated = refl

-- How many

pub as_many_users_as_there_may_be : users_fault (lines_of (numbers_between 0 32)) ≡ None
unfolding users_fault counted_from
as_many_users_as_there_may_be = refl

-- the thirty-third line of a user is at fault
pub one_user_too_many : users_fault (lines_of (numbers_between 0 34)) ≡ Some 2400
unfolding users_fault counted_from
one_user_too_many = refl

-- Groups

abbrev alice_bob_carol : List ℕ
alice_bob_carol = user_line (codes "alice") ++ (user_line (codes "bob") ++ user_line (codes "carol"))

abbrev three : List User
three = user (codes "alice") ∷ user (codes "bob") ∷ user (codes "carol") ∷ []

-- the members are numbered, in whatever order they are named
pub two_groups : users_of (alice_bob_carol ++ codes "group team carol bob\n#\ngroup a-b_c.9 alice\n")
    ≡ Ok (record { people = three; groups = record { name = codes "team"; members = 1 ∷ 2 ∷ [] } ∷ record { name = codes "a-b_c.9"; members = 0 ∷ [] } ∷ [] })
unfolding users_of users_fault
two_groups = refl

pub unknown_member : users_of (alice_bob_carol ++ codes "group team dave\n") ≡ Err 226
unfolding users_of users_fault
unknown_member = refl

pub member_of_a_later_line : users_of (user_line (codes "alice") ++ (codes "group team bob\n" ++ user_line (codes "bob"))) ≡ Err 76
unfolding users_of users_fault
member_of_a_later_line = refl

pub group_as_a_member : users_of (alice_bob_carol ++ codes "group a bob\ngroup b a\n") ≡ Err 238
unfolding users_of users_fault
group_as_a_member = refl

pub member_twice : users_of (alice_bob_carol ++ codes "group team bob bob\n") ≡ Err 226
unfolding users_of users_fault
member_twice = refl

pub no_member : (users_of (alice_bob_carol ++ codes "group team\n") ≡ Err 226) × (users_of (alice_bob_carol ++ codes "group team \n") ≡ Err 226)
unfolding users_of users_fault
no_member = (refl, refl)

pub group_named_as_a_user : users_of (alice_bob_carol ++ codes "group bob carol\n") ≡ Err 226
unfolding users_of users_fault
group_named_as_a_user = refl

pub user_named_as_a_group : users_of (user_line (codes "alice") ++ (codes "group bob alice\n" ++ user_line (codes "bob"))) ≡ Err 92
unfolding users_of users_fault
user_named_as_a_group = refl
