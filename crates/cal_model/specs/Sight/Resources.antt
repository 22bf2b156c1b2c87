-- Resources as a caller sees them (RFC 4918, 5; RFC 3744, 2; RFC 4791, 4): which kinds there are, and which privileges are held on each.
-- Given: names, what is seen of a calendar, and the octets of an object.
use Rattle.std.specs.Prelude.{ℕ, Bool, true, false, ◌||◌, List, Option}
use Rattle.cal_model.specs.declared.path.Path.{Path}
use Rattle.cal_model.specs.declared.path.Path.TheVariants.{Root, Principal, Home, Calendar, Object}
use Rattle.cal_model.specs.Access.Privileges.{all}
use Rattle.cal_model.specs.State.ServerState.{Directory}
use Rattle.cal_model.specs.Sight.Views.{Sight}

-- a resource as the caller sees it; the principals are those of users and of groups
pub data Resource : Type 0 where
  root : Resource
  principal : (user : List ℕ) → Resource
  group : (name : List ℕ) → Resource
  home : (owner : List ℕ) → Resource
  calendar : (owner name : List ℕ) (sight : Sight) → Resource
  object : (owner calendar name : List ℕ) (sight : Sight) (octets : List ℕ) → Resource

abbrev pub path_of_resource : Resource → Path
path_of_resource root = Root
path_of_resource (principal user) = Principal user
path_of_resource (group name) = Principal name
path_of_resource (home owner) = Home owner
path_of_resource (calendar owner name sight) = Calendar owner name
path_of_resource (object owner within name sight octets) = Object owner within name

-- the privileges held: an object has those of its calendar, and what has none of its own shows all to whom it is visible
abbrev pub held_of : Resource → ℕ
held_of (calendar owner name sight) = sight.held
held_of (object owner within name sight octets) = sight.held
held_of other = all

-- kinds of resources
abbrev pub any_resource : Resource → Bool
any_resource resource = true

abbrev pub is_user : Resource → Bool
is_user (principal user) = true
is_user other = false

abbrev pub is_group : Resource → Bool
is_group (group name) = true
is_group other = false

abbrev pub is_principal : Resource → Bool
is_principal resource = is_user resource || is_group resource

abbrev pub is_calendar : Resource → Bool
is_calendar (calendar owner name sight) = true
is_calendar other = false

abbrev pub is_object : Resource → Bool
is_object (object owner within name sight octets) = true
is_object other = false

abbrev pub is_named : Resource → Bool
is_named resource = is_principal resource || is_calendar resource

-- a home and all in it
abbrev pub is_owned : Resource → Bool
is_owned root = false
is_owned (principal user) = false
is_owned (group name) = false
is_owned other = true

-- who asks, and what a report shows of an object's octets
pub record Asker : Type 0 where
  pub directory : Directory
  pub who : ℕ
  pub shown : Option (List ℕ → List ℕ)
