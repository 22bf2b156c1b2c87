-- Changes as they are kept: with what was read of an object beside its octets, and shared. What each is a change of, and which may be made in a state.
-- Given: a change as a journal keeps it. Gives: the change that it is.
use Rattle.std.specs.Prelude.{◌≡◌, ℕ, Bool, true, false, List, Some}
use Rattle.cal_model.specs.declared.path.ObjectPath.{ObjectPath}
use Rattle.cal_model.specs.declared.change.Change.{Change as KeptChange}
use Rattle.cal_model.specs.declared.change.Change.TheVariants as kept
use Rattle.cal_model.specs.State.ServerState.{Directory, ServerState}
use Rattle.cal_model.specs.State.Changes.{Change, put, delete_object, delete_calendar, make, patch, acl, change_of}
use Rattle.cal_model.specs.History.Journal.{Entry, asked, IsAcceptedAt}

-- the change that is kept
abbrev pub kept_change : KeptChange → Change
kept_change (kept.Put stored) = put stored.path.home stored.path.calendar stored.path.object stored.octets
kept_change (kept.DeleteObject stored) = delete_object stored.path.home stored.path.calendar stored.path.object
kept_change (kept.DeleteCalendar home name) = delete_calendar home name
kept_change (kept.Make home name sets size) = make home name sets size
kept_change (kept.Patch home name sets size) = patch home name sets size
kept_change (kept.Acl home name grants size) = acl home name grants size

-- an object's path is that of a home's number, a calendar and a name
pub record IsAtPlace (home : ℕ) (calendar object : List ℕ) (path : ObjectPath) : Type 0 where
  pub home_is : path.home ≡ home
  pub calendar_is : path.calendar ≡ calendar
  pub object_is : path.object ≡ object

-- a deletion: what takes away takes no memory
abbrev pub is_deletion : Change → Bool
is_deletion (delete_object home calendar object) = true
is_deletion (delete_calendar home calendar) = true
is_deletion other = false

-- a change may be made in a state: the request that an entry with it names asks for it, and is accepted there
pub record IsAcceptable (directory : Directory) (state : ServerState) (change : Change) : Type 0 where
  pub entry : Entry
  pub entry_is : entry.change ≡ change
  pub asked_is : change_of directory (asked directory entry).request ≡ Some change
  pub accepted_is : IsAcceptedAt directory state entry
