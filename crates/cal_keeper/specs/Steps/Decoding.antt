-- How a payload is read: each part is found in front of octets exactly where its text stands there.
-- Given: octets, and how many users and groups there are. The texts are those of Payloads.
use Rattle.std.specs.Prelude.{◌≡◌, ℕ, ◌≤◌, List, ◌∷◌, ◌++◌, length, All, flat_map, option_map}
use Rattle.std.specs.Int.{w16, w32, w64, to_be_bytes}
use Rattle.cal_model.specs.declared.privilege.Grant.{Grant}
use Rattle.cal_model.specs.declared.property.PropSet.{PropSet}
use Rattle.cal_model.specs.declared.request.Event.{Event}
use Rattle.cal_model.specs.declared.request.Request.{Request}
use Rattle.cal_model.specs.Bodies.AclBodies.{grant_limit}
use Rattle.cal_model.specs.History.Journal.{Entry, asked, request_for}
use Rattle.cal_model.specs.State.Changes.{Change}
use Rattle.cal_model.specs.State.ServerState.{directory_of}
use Rattle.cal_model.specs.Users.UsersFile.{Users}
use Rattle.cal_keeper.specs.declared.decoding.Head.{Head}
use Rattle.cal_keeper.specs.declared.set_reading.SetParts.{SetParts}
use Rattle.cal_keeper.specs.Files.Payloads.{grant_text, sets_text, grants_text, kind_of, own_text, home_of, calendar_of, payload_of, SettingsHaveForm, GrantHasForm, ChangeHasForm, HasForm}
use Rattle.cal_keeper.specs.Files.Standing.{IsRecorded}
use Rattle.cal_keeper.specs.declared.principals.PrincipalCounts.{PrincipalCounts}
use Rattle.cal_keeper.specs.Principals.{counts_of}

-- no text of a value in the form stands in front of the octets
abbrev pub HasNo : {X : Type 0} → (X → List ℕ) → (X → Type 0) → List ℕ → Type 0
HasNo text fits octets = (x : _) (rest : List ℕ) → fits x → octets ≡ text x ++ rest → ⊥

-- any value is in the form
abbrev pub IsAny : {X : Type 0} → X → Type 0
IsAny x = Unit {0}

-- the setting that parts of octets are
abbrev pub set_of : SetParts → PropSet
set_of parts = record { name = record { space = parts.space.now; name = parts.name.now }; value = option_map (λ (value : _). value.now) parts.value }

-- no settings in the form are all of the octets, behind some size
abbrev pub HasNoSettings : List ℕ → Type 0
HasNoSettings octets = (size : ℕ) (sets : List PropSet) → SettingsHaveForm sets → octets ≡ sets_text size sets → ⊥

-- so many grants in the form are not all of the octets
abbrev pub HasNoGrants : PrincipalCounts → ℕ → List ℕ → Type 0
HasNoGrants counts count octets = (grants : List Grant) → length grants ≡ count → All (GrantHasForm counts) grants → octets ≡ flat_map grant_text grants → ⊥

-- nor are any few of them, behind some size
abbrev pub HasNoCountedGrants : PrincipalCounts → List ℕ → Type 0
HasNoCountedGrants counts octets = (size : ℕ) (grants : List Grant) → length grants ≤ grant_limit → All (GrantHasForm counts) grants → octets ≡ grants_text size grants → ⊥

-- the numbers in front of the calendar's name
abbrev pub head_text : Head → List ℕ
head_text head = head.kind ∷ to_be_bytes w32 head.who ++ to_be_bytes w64 head.moment ++ to_be_bytes w16 head.status ++ to_be_bytes w32 head.home

-- A change of a kind in a calendar, which has these octets behind the calendar's name.
pub record IsOwn (counts : PrincipalCounts) (kind home : ℕ) (calendar octets : List ℕ) (change : Change) : Type 0 where
  pub kind_is : kind_of change ≡ kind
  pub home_is : home_of change ≡ home
  pub calendar_is : calendar_of change ≡ calendar
  pub form : ChangeHasForm counts change
  pub text : octets ≡ own_text change

-- a request asks for such a change
abbrev pub AsksForOwn : Users → ℕ → ℕ → List ℕ → List ℕ → Request → Type 0
AsksForOwn users kind home calendar octets request = (change : Change) × IsOwn (counts_of users) kind home calendar octets change × (request ≡ request_for (directory_of users) change)

-- there is none
abbrev pub HasNoOwn : Users → ℕ → ℕ → List ℕ → List ℕ → Type 0
HasNoOwn users kind home calendar octets = (change : Change) → IsOwn (counts_of users) kind home calendar octets change → ⊥

-- an entry of a file has this payload, event and status
pub record IsReadAs (users : Users) (payload : List ℕ) (event : Event) (status : ℕ) (entry : Entry) : Type 0 where
  pub recorded : IsRecorded users entry
  pub payload_is : payload ≡ payload_of entry
  pub event_is : event ≡ asked (directory_of users) entry
  pub status_is : status ≡ entry.status

abbrev pub ReadsEvent : Users → List ℕ → Event → ℕ → Type 0
ReadsEvent users payload event status = (entry : Entry) × IsReadAs users payload event status entry

-- no entry has this payload
abbrev pub IsOutside : Users → List ℕ → Type 0
IsOutside users payload = (entry : Entry) → HasForm (counts_of users) entry → payload ≡ payload_of entry → ⊥
