-- Numbers of users and groups that are mapped by their names: what is a number, a grant, a change, an entry and a home of some users for other users.
-- Given: the old users and the new ones. Of an entry the user who asked, the home and the grants are mapped; of a home the grants of its calendars. All else stays as it is.
use Rattle.std.specs.Prelude.{ℕ, ◌<◌, IsSome, List, length, map, unwrap_or}
use Rattle.cal_model.specs.declared.privilege.Grant.{Grant}
use Rattle.cal_model.specs.declared.privilege.Who.{Who}
use Rattle.cal_model.specs.declared.privilege.Who.TheVariants.{Principal, Group}
use Rattle.cal_model.specs.declared.request.Content.{Content}
use Rattle.cal_model.specs.declared.request.Content.TheVariants as content
use Rattle.cal_model.specs.declared.request.Event.{Event}
use Rattle.cal_model.specs.History.Journal.{Entry}
use Rattle.cal_model.specs.State.Changes.{Change, put, delete_object, delete_calendar, make, patch, acl}
use Rattle.cal_model.specs.State.ServerState.{Calendar, Home, directory_of, user_number, user_name, group_number, group_name}
use Rattle.cal_model.specs.Users.UsersFile.{Users}

-- Everybody is there

-- a new user has the name of each old one, and a new group that of each old one
abbrev pub AreUsersIn : Users → Users → Type 0
AreUsersIn old new = (user : ℕ) → user < length old.people → IsSome (user_number (directory_of new) (user_name (directory_of old) user))

abbrev pub AreGroupsIn : Users → Users → Type 0
AreGroupsIn old new = (group : ℕ) → group < length old.groups → IsSome (group_number (directory_of new) (group_name (directory_of old) group))

pub record AreAllIn (old new : Users) : Type 0 where
  pub users : AreUsersIn old new
  pub groups : AreGroupsIn old new

-- Numbers

-- the number that a user of the old ones has among the new
abbrev pub moved_user : Users → Users → ℕ → ℕ
moved_user old new user = unwrap_or (user_number (directory_of new) (user_name (directory_of old) user)) 0

abbrev pub moved_group : Users → Users → ℕ → ℕ
moved_group old new group = unwrap_or (group_number (directory_of new) (group_name (directory_of old) group)) 0

-- Entries

abbrev pub moved_who : Users → Users → Who → Who
moved_who old new (Principal user) = Principal (moved_user old new user)
moved_who old new (Group group) = Group (moved_group old new group)
moved_who old new other = other

abbrev pub moved_grant : Users → Users → Grant → Grant
moved_grant old new grant = record { who = moved_who old new grant.who; held = grant.held }

abbrev pub moved_change : Users → Users → Change → Change
moved_change old new (put home calendar object octets) = put (moved_user old new home) calendar object octets
moved_change old new (delete_object home calendar object) = delete_object (moved_user old new home) calendar object
moved_change old new (delete_calendar home calendar) = delete_calendar (moved_user old new home) calendar
moved_change old new (make home calendar sets size) = make (moved_user old new home) calendar sets size
moved_change old new (patch home calendar sets size) = patch (moved_user old new home) calendar sets size
moved_change old new (acl home calendar grants size) = acl (moved_user old new home) calendar (map (moved_grant old new) grants) size

-- An entry for the new users.
abbrev pub moved_entry : Users → Users → Entry → Entry
moved_entry old new entry = record entry { who = moved_user old new entry.who; change = moved_change old new entry.change }

abbrev pub moved_entries : Users → Users → List Entry → List Entry
moved_entries old new entries = map (moved_entry old new) entries

-- Homes

abbrev pub moved_calendar : Users → Users → Calendar → Calendar
moved_calendar old new calendar = record calendar { grants = map (moved_grant old new) calendar.grants }

-- A home for the new users.
abbrev pub moved_home : Users → Users → Home → Home
moved_home old new home = record home { calendars = map (λ (named : List ℕ × Calendar). (named.0, moved_calendar old new named.1)) home.calendars }

-- Events, which name homes by their users' names

abbrev pub moved_content : Users → Users → Content → Content
moved_content old new (content.Acl grants) = content.Acl (map (moved_grant old new) grants)
moved_content old new other = other

abbrev pub moved_event : Users → Users → Event → Event
moved_event old new event =
    record event { who = moved_user old new event.who; request = record event.request { content = moved_content old new event.request.content } }
