-- A resource as its properties show it, and what else there is of it, which no property shows.
use Rattle.std.specs.Prelude.{◌≡◌, ℕ, List, [], ◌∷◌, map, Option, Some, None, unwrap_or}
use Rattle.cal_base.specs.Lists.NameMap.{Named}
use Rattle.cal_model.specs.declared.path.Path.{Path}
use Rattle.cal_model.specs.declared.path.Path.TheVariants.{Calendar as CalendarPath, Object as ObjectPath}
use Rattle.cal_model.specs.declared.property.PropName.{PropName}
use Rattle.cal_model.specs.declared.property.PropSet.{PropSet}
use Rattle.cal_model.specs.declared.store.CalendarData.{CalendarData}
use Rattle.cal_model.specs.Access.Privileges.{has_all, read, read_acl}
use Rattle.cal_model.specs.State.PropertyTexts.{Texts}
use Rattle.cal_model.specs.State.ServerState.{Directory, ServerState, user_number, group_number}
use Rattle.cal_model.specs.State.SoundStates.{AreToUsers}
use Rattle.cal_model.specs.Sight.Views.{Sight, only_where}
use Rattle.cal_model.specs.Sight.Resources.{Resource, root, principal, group, home, calendar, object, path_of_resource}
use Rattle.cal_model.specs.Serving.SeenResources.{resources_seen}
use Rattle.dav_props.specs.declared.subjects.Subject.{Subject}
use Rattle.dav_props.specs.declared.subjects.Subject.TheVariants as subject

-- what no property shows: the names of the calendar and of the object, the other objects, and of a sight what its properties do not say
pub record Unseen : Type 0 where
  pub calendar : List ℕ
  pub name : List ℕ
  pub objects : Named (List ℕ)
  pub sight : Sight

-- settings as the texts that they were kept from
abbrev pub text_of : PropSet → PropName × List ℕ
text_of set = (set.name, unwrap_or set.value [])

abbrev pub texts_of : List PropSet → Texts
texts_of sets = map text_of sets

-- a calendar on which some privileges are held, as it is seen
abbrev pub calendar_sight : ℕ → CalendarData → Unseen → Sight
calendar_sight held kept unseen = record {
  held = held;
  contents = only_where (has_all held read) (record { kinds = kept.kinds; texts = texts_of kept.texts; objects = unseen.objects });
  grants = only_where (has_all held read_acl) kept.acl.grants;
  busy = unseen.sight.busy;
}

abbrev pub resource_of : Subject → Unseen → Resource
resource_of subject.Root unseen = root
resource_of (subject.Principal user number) unseen = principal user.now
resource_of (subject.Group name number) unseen = group name.now
resource_of (subject.Home user) unseen = home user.now
resource_of (subject.Calendar user held kept) unseen = calendar user.now unseen.calendar (calendar_sight held kept.now unseen)
resource_of (subject.Object user held stored) unseen = object user.now unseen.calendar unseen.name (record unseen.sight { held = held }) stored.now.octets

-- a principal has the number of its name, and the grants of a calendar are to users and groups that there are
abbrev pub HasUsers : Directory → Subject → Type 0
HasUsers directory (subject.Principal user number) = number ≡ user_number directory user.now
HasUsers directory (subject.Group name number) = Some number ≡ group_number directory name.now
HasUsers directory (subject.Calendar user held kept) = AreToUsers directory kept.now.acl.grants
HasUsers directory other = Unit {0}

-- what a user sees at a path is this
pub record IsSeenAs (directory : Directory) (state : ServerState) (who : ℕ) (path : Path) (seen : Subject) : Type 0 where
  pub unseen : Unseen
  pub is : resources_seen directory state who path ≡ resource_of seen unseen ∷ []
  pub path_is : path_of_resource (resource_of seen unseen) ≡ path
  pub users : HasUsers directory seen

-- what is looked for at a path was found, or nothing is seen there
abbrev pub IsSeenAt : Directory → ServerState → ℕ → Path → Option Subject → Type 0
IsSeenAt directory state who path None = resources_seen directory state who path ≡ []
IsSeenAt directory state who path (Some seen) = IsSeenAs directory state who path seen

abbrev pub IsCalendarSeen : Directory → ServerState → ℕ → List ℕ → List ℕ → Option Subject → Type 0
IsCalendarSeen directory state who user name found = IsSeenAt directory state who (CalendarPath user name) found

abbrev pub IsObjectSeen : Directory → ServerState → ℕ → (user within name : List ℕ) → Option Subject → Type 0
IsObjectSeen directory state who user within name found = IsSeenAt directory state who (ObjectPath user within name) found
