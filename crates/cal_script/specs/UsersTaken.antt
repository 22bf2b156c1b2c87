-- The users file: how long it may be, whose it is, and where it is refused.
-- Given: its octets; or the path that the words of a command give, where they give one, and what files have, where that is told.
use Rattle.std.specs.Prelude.{◌≡◌, ◌⊎◌, ℕ, ◌<◌, ◌≤◌, List, length, Ok, Err, Option, IfSome}
use Rattle.cal_model.specs.Users.UsersFile.{Users, users_of}

-- the most octets of a users file
abbrev pub file_limit : ℕ
file_limit = 65_536

-- the file has these users
pub record AreUsersOf (octets : List ℕ) (users : Users) : Type 0 where
  pub short : length octets ≤ file_limit
  pub reading : users_of octets ≡ Ok users

-- the file is too long, which is said of the place behind its limit; or it has a bad line there
abbrev pub IsRefusedAt : List ℕ → ℕ → Type 0
IsRefusedAt octets place =
    ((file_limit < length octets) × (place ≡ file_limit)) ⊎ ((length octets ≤ file_limit) × (users_of octets ≡ Err place))

-- what is said of the octets of the file at a path is so, where they are told
abbrev pub IfTold : Option (List ℕ) → (List ℕ → Option (List ℕ)) → (List ℕ → Type 0) → Type 0
IfTold path content P = IfSome path (λ named. IfSome (content named) P)

-- the users are those of the file at a path
abbrev pub AreUsersAt : Option (List ℕ) → (List ℕ → Option (List ℕ)) → Users → Type 0
AreUsersAt path content users = IfTold path content (λ octets. AreUsersOf octets users)
