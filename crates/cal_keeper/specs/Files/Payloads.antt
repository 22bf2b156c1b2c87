-- The payload of a record: an accepted change, by whom and when it was asked for, and the status of its reply. All numbers are big-endian.
-- Given: an entry of the journal, whose session is not written. Gives: its octets, field by field, from which both what is written and what is read are told; and which entries have a payload.
use Rattle.std.specs.Prelude.{◌≡◌, ℕ, ◌<◌, ◌≤◌, ◌^◌, IsTrue, List, [], ◌∷◌, ◌++◌, length, All, flat_map, Option, Some, None, ℤ, pos}
use Rattle.std.specs.Int.{w16, w32, w64, to_be_bytes}
use Rattle.cal_model.specs.declared.privilege.Grant.{Grant}
use Rattle.cal_model.specs.declared.privilege.Who.{Who}
use Rattle.cal_model.specs.declared.privilege.Who.TheVariants.{Everyone, Owner, Principal, Group}
use Rattle.cal_model.specs.declared.property.PropSet.{PropSet}
use Rattle.cal_model.specs.Bodies.AclBodies.{grant_limit}
use Rattle.cal_model.specs.Bodies.ContentSizes.{values_size}
use Rattle.cal_model.specs.History.Journal.{Entry}
use Rattle.cal_model.specs.Paths.TargetPaths.{is_resource_name}
use Rattle.cal_model.specs.Requests.ContentBounds.{most_properties}
use Rattle.cal_model.specs.State.Changes.{Change, put, delete_object, delete_calendar, make, patch, acl}
use Rattle.cal_model.specs.Streams.WireLimits.{body_limit}
use Rattle.cal_model.specs.Words.Limits.{last_moment}
use Rattle.cal_keeper.specs.Files.RecordForm.{payload_limit}
use Rattle.cal_keeper.specs.declared.principals.PrincipalCounts.{PrincipalCounts}

-- Fields

-- a name: its length as one octet, and its octets
abbrev pub name_text : List ℕ → List ℕ
name_text name = length name ∷ name

-- octets behind their number, which has four octets
abbrev pub long_text : List ℕ → List ℕ
long_text octets = to_be_bytes w32 (length octets) ++ octets

-- the value of a property: 0 where it is to be removed, else 1 and the value
abbrev pub value_text : Option (List ℕ) → List ℕ
value_text None = 0 ∷ []
value_text (Some value) = 1 ∷ long_text value

-- a property: its namespace, its name, and its value
abbrev pub set_text : PropSet → List ℕ
set_text set = long_text set.name.space ++ long_text set.name.name ++ value_text set.value

-- whom a grant is for: a kind, and a number that is 0 where there is none
abbrev pub who_text : Who → List ℕ
who_text Everyone = 0 ∷ to_be_bytes w32 0
who_text Owner = 1 ∷ to_be_bytes w32 0
who_text (Principal user) = 2 ∷ to_be_bytes w32 user
who_text (Group group) = 3 ∷ to_be_bytes w32 group

-- a grant: whom it is for, and the privileges as bits
abbrev pub grant_text : Grant → List ℕ
grant_text grant = who_text grant.who ++ to_be_bytes w16 grant.held.0

-- the size of the request's body, the number of properties, and each of them
abbrev pub sets_text : ℕ → List PropSet → List ℕ
sets_text size sets = to_be_bytes w32 size ++ to_be_bytes w32 (length sets) ++ flat_map set_text sets

-- the size of the request's body, the number of grants as one octet, and each of them
abbrev pub grants_text : ℕ → List Grant → List ℕ
grants_text size grants = to_be_bytes w32 size ++ length grants ∷ flat_map grant_text grants

-- The table of kinds

-- the number of a change's kind
abbrev pub kind_of : Change → ℕ
kind_of (put home calendar object octets) = 1
kind_of (delete_object home calendar object) = 2
kind_of (delete_calendar home calendar) = 3
kind_of (make home calendar sets size) = 4
kind_of (patch home calendar sets size) = 5
kind_of (acl home calendar grants size) = 6

-- the fields that each kind has of its own
abbrev pub own_text : Change → List ℕ
own_text (put home calendar object octets) = name_text object ++ long_text octets
own_text (delete_object home calendar object) = name_text object
own_text (delete_calendar home calendar) = []
own_text (make home calendar sets size) = sets_text size sets
own_text (patch home calendar sets size) = sets_text size sets
own_text (acl home calendar grants size) = grants_text size grants

-- the user in whose home the change is, and the calendar's name
abbrev pub home_of : Change → ℕ
home_of (put home calendar object octets) = home
home_of (delete_object home calendar object) = home
home_of (delete_calendar home calendar) = home
home_of (make home calendar sets size) = home
home_of (patch home calendar sets size) = home
home_of (acl home calendar grants size) = home

abbrev pub calendar_of : Change → List ℕ
calendar_of (put home calendar object octets) = calendar
calendar_of (delete_object home calendar object) = calendar
calendar_of (delete_calendar home calendar) = calendar
calendar_of (make home calendar sets size) = calendar
calendar_of (patch home calendar sets size) = calendar
calendar_of (acl home calendar grants size) = calendar

-- the seconds of a moment since 1970
abbrev pub seconds_of : ℤ → ℕ
seconds_of (pos seconds) = seconds
seconds_of other = 0

-- the fields that all kinds have in front: kind, user, moment, status, home, and the calendar's name
abbrev pub shared_text : Entry → List ℕ
shared_text entry =
    kind_of entry.change ∷ to_be_bytes w32 entry.who ++ to_be_bytes w64 (seconds_of entry.moment) ++ to_be_bytes w16 entry.status
    ++ to_be_bytes w32 (home_of entry.change) ++ name_text (calendar_of entry.change)

-- The payload of an entry.
abbrev pub payload_of : Entry → List ℕ
payload_of entry = shared_text entry ++ own_text entry.change

-- Which entries have a payload in the form

-- a calendar or an object may have this name
abbrev pub IsName : List ℕ → Type 0
IsName name = IsTrue (is_resource_name name)

-- a grant is for one of so many users or groups, or for none in particular
abbrev pub IsKnown : PrincipalCounts → Who → Type 0
IsKnown counts (Principal user) = user < counts.users
IsKnown counts (Group group) = group < counts.groups
IsKnown counts other = Unit {0}

-- there are few enough properties, with few enough octets in all their values
abbrev pub SettingsHaveForm : List PropSet → Type 0
SettingsHaveForm sets = (length sets ≤ most_properties) × (values_size sets ≤ body_limit)

-- a grant is for such a principal, and of the nine privileges
abbrev pub GrantHasForm : PrincipalCounts → Grant → Type 0
GrantHasForm counts grant = IsKnown counts grant.who × (grant.held.0 ≤ 511)

abbrev pub ChangeHasForm : PrincipalCounts → Change → Type 0
ChangeHasForm counts (put home calendar object octets) = IsName object
ChangeHasForm counts (delete_object home calendar object) = IsName object
ChangeHasForm counts (delete_calendar home calendar) = Unit {0}
ChangeHasForm counts (make home calendar sets size) = SettingsHaveForm sets × (size < 2 ^ 32)
ChangeHasForm counts (patch home calendar sets size) = SettingsHaveForm sets × (size < 2 ^ 32)
ChangeHasForm counts (acl home calendar grants size) = (length grants ≤ grant_limit) × All (GrantHasForm counts) grants × (size < 2 ^ 32)

-- An entry's payload is in the form, for so many users and groups.
pub record HasForm (counts : PrincipalCounts) (entry : Entry) : Type 0 where
  pub who : entry.who < counts.users
  pub home : home_of entry.change < counts.users
  -- from 1970 to the last second of the year 9999
  pub moment : entry.moment ≡ pos (seconds_of entry.moment)
  pub to_9999 : seconds_of entry.moment ≤ last_moment
  pub status : entry.status < 2 ^ 16
  pub calendar : IsName (calendar_of entry.change)
  pub change : ChangeHasForm counts entry.change
  pub short : length (payload_of entry) ≤ payload_limit
