-- What holds of each state that is reached, and what stores and books keep in their types (RFC 4791, 4.1 and 5.3.2.1; RFC 3744, 5.5.1): names are names of resources and stand in order, each object can be served,
-- and each grant is to somebody whom the server knows. No name is empty, so a walk that begins at the empty name meets all (`NameWalks`).
-- Given: the users and a state, or a change. That changes keep it is `Serving.ServingLaws`.
use Rattle.std.specs.Prelude.{◌≡◌, ◌<◌, length, List, All, IsTrue}
use Rattle.std.specs.List.{AllByRecursion}
use Rattle.std.specs.List.Sorted.{IsStrictlySortedBy}
use Rattle.std.specs.Map.{keys_of, values_of}
use Rattle.cal_base.specs.Lists.NameMap.{Named, IsInOrder}
use Rattle.cal_model.specs.declared.privilege.Grant.{Grant}
use Rattle.cal_model.specs.declared.privilege.Who.{Who}
use Rattle.cal_model.specs.declared.privilege.Who.TheVariants.{Principal, Group}
use Rattle.cal_model.specs.Paths.TargetPaths.{is_resource_name}
use Rattle.cal_model.specs.State.PropertyTexts.{prop_order}
use Rattle.cal_model.specs.State.ServerState.{Directory, Calendar, Home, ServerState}
use Rattle.cal_model.specs.State.Changes.{Change, put, make, acl}
use Rattle.cal_model.specs.Refusals.Preconditions.{IsServable}

-- a grant names a user or a group that there is
abbrev pub IsToUser : Directory → Who → Type 0
IsToUser directory (Principal user) = user < length directory.names
IsToUser directory (Group group) = group < length directory.groups
IsToUser directory other = Unit {0}

abbrev pub AreToUsers : Directory → List Grant → Type 0
AreToUsers directory grants = All (λ (grant : Grant). IsToUser directory grant.who) grants

-- a grant to a group names one that there is
abbrev pub IsToGroup : Directory → Who → Type 0
IsToGroup directory (Group group) = group < length directory.groups
IsToGroup directory other = Unit {0}

abbrev pub HaveGroups : Directory → List Grant → Type 0
HaveGroups directory grants = All (λ (grant : Grant). IsToGroup directory grant.who) grants

-- each name is one of a calendar or an object (RFC 3986, 3.3)
abbrev pub AreNamed : {V : Type 0} → Named V → Type 0
AreNamed named = AllByRecursion (λ name. IsTrue (is_resource_name name)) (keys_of named)

pub record IsSoundCalendar (directory : Directory) (calendar : Calendar) : Type 0 where
  pub grants : AreToUsers directory calendar.grants
  pub texts_in_order : IsStrictlySortedBy prop_order (keys_of calendar.texts)
  pub objects_named : AreNamed calendar.objects
  pub objects_in_order : IsInOrder calendar.objects
  pub servable : All IsServable (values_of calendar.objects)

pub record IsSoundHome (directory : Directory) (home : Home) : Type 0 where
  pub named : AreNamed home.calendars
  pub in_order : IsInOrder home.calendars
  pub calendars : All (IsSoundCalendar directory) (values_of home.calendars)

pub record IsSound (directory : Directory) (state : ServerState) : Type 0 where
  pub one_each : length state.homes ≡ length directory.names
  pub homes : All (IsSoundHome directory) state.homes

-- what a change has to bring for that: a request's path has such names
abbrev pub IsSoundChange : Directory → Change → Type 0
IsSoundChange directory (put home calendar object octets) = IsTrue (is_resource_name object) × IsServable octets
IsSoundChange directory (make home calendar sets size) = IsTrue (is_resource_name calendar)
IsSoundChange directory (acl home calendar grants size) = AreToUsers directory grants
IsSoundChange directory other = Unit {0}
